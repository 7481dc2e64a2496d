-- What a strict reading of a whole input accepts, and why it refuses.
use Rattle.std.specs.Prelude.{◌≡◌, ℕ, List}
use Rattle.bitcode_memory.specs.declared.error.Reason.{Reason}
use Rattle.bitcode_memory.specs.declared.error.Reason.TheVariants.{OutOfMemory, NotTheWrittenText}
use Rattle.bitcode_shapes.specs.Datum.{Datum}
use Rattle.bitcode_untyped.specs.ShapeTree.{ShapeTree}
use Rattle.bitcode_untyped.specs.Spelling.{SpellsDatum}
use Rattle.bitcode_untyped.specs.Strict.{StrictlySpellsDatum}
use Rattle.bitcode_serde.specs.ReadingValues.{IsValueReason}

-- the whole input spells a datum, in other bytes than are written for its columns
pub record SpellsOtherwise (shape : ShapeTree) (bytes : List ℕ) : Type 0 where
  pub datum : Datum
  pub spelled : SpellsDatum shape bytes datum
  pub other : StrictlySpellsDatum shape bytes datum → ⊥

-- Why a strict reading is refused: want of memory; `not the written text` where the input spells a datum in other bytes; and
-- the reasons of other readings only where it spells none.
pub data IsStrictRefusal (shape : ShapeTree) (reason : Reason) (bytes : List ℕ) : Type 0 where
  no_memory : reason ≡ OutOfMemory → IsStrictRefusal shape reason bytes
  other_bytes : reason ≡ NotTheWrittenText → SpellsOtherwise shape bytes → IsStrictRefusal shape reason bytes
  none_spelled : IsValueReason reason → ((d : Datum) → SpellsDatum shape bytes d → ⊥) → IsStrictRefusal shape reason bytes
