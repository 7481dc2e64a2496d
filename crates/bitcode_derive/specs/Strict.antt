-- What the strict calls for whole values read: the texts that are written, and no other bytes.
use Rattle.std.specs.Prelude.{◌≡◌, ℕ, List, [], ◌∷◌}
use Rattle.bitcode_memory.specs.declared.error.Reason.{Reason}
use Rattle.bitcode_memory.specs.declared.error.Reason.TheVariants.{OutOfMemory, NotTheWrittenText}
use Rattle.bitcode_shapes.specs.Datum.{Datum}
use Rattle.bitcode_shapes.specs.Shape.{Shape}
use Rattle.bitcode_coder.specs.Coder.{IsReadingReason}
use Rattle.bitcode_coder.specs.Strict.{StrictlySpells}
use Rattle.bitcode_derive.specs.Whole.{SpellsDatum}

-- the whole input strictly spells the one datum
abbrev pub StrictlySpellsDatum : Shape → List ℕ → Datum → Type 0
StrictlySpellsDatum shape bytes d = StrictlySpells shape bytes (d ∷ [])

-- the whole input strictly spells a datum that makes the value
pub record IsStrictDecodingOf {T : Type 0} (makes : Datum → T → Type 0) (shape : Shape) (bytes : List ℕ) (t : T) : Type 0 where
  pub datum : Datum
  pub spelled : StrictlySpellsDatum shape bytes datum
  pub made : makes datum t

-- the whole input spells a datum, in different bytes than would be written for its columns
pub record SpellsOtherwise (shape : Shape) (bytes : List ℕ) : Type 0 where
  pub datum : Datum
  pub spelled : SpellsDatum shape bytes datum
  pub other : StrictlySpellsDatum shape bytes datum → ⊥

-- Why a strict read fails: an allocation failed; `not the written text` if the input spells a datum in different bytes;
-- and the other reasons only if the input spells no datum.
pub data IsStrictRefusal (shape : Shape) (reason : Reason) (bytes : List ℕ) : Type 0 where
  no_memory : reason ≡ OutOfMemory → IsStrictRefusal shape reason bytes
  other_bytes : reason ≡ NotTheWrittenText → SpellsOtherwise shape bytes → IsStrictRefusal shape reason bytes
  none_spelled : IsReadingReason reason → ((d : Datum) → SpellsDatum shape bytes d → ⊥) → IsStrictRefusal shape reason bytes
