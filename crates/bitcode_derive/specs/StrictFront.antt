-- What a strict read takes from the front of an input: the texts that are written for one datum. The rest is left.
use Rattle.std.specs.Prelude.{◌≡◌, ℕ, List, ◌++◌}
use Rattle.bitcode_memory.specs.declared.error.Reason.{Reason}
use Rattle.bitcode_memory.specs.declared.error.Reason.TheVariants.{OutOfMemory, NotTheWrittenText}
use Rattle.bitcode_shapes.specs.Datum.{Datum}
use Rattle.bitcode_shapes.specs.Shape.{Shape}
use Rattle.bitcode_coder.specs.Coder.{IsReadingReason}
use Rattle.bitcode_derive.specs.Front.{BeginsWithDatum}
use Rattle.bitcode_derive.specs.Strict.{StrictlySpellsDatum}

-- a prefix of the input strictly spells the datum, and the rest is left
pub record StrictlyBeginsWith (shape : Shape) (input : List ℕ) (d : Datum) (rest : List ℕ) : Type 0 where
  pub front : List ℕ
  pub whole : input ≡ front ++ rest
  pub spelled : StrictlySpellsDatum shape front d

-- a prefix of the input strictly spells a datum that makes the value, and the rest is left
pub record IsStrictDecodingOfFront {T : Type 0} (makes : Datum → T → Type 0) (shape : Shape) (input : List ℕ) (t : T) (rest : List ℕ) : Type 0 where
  pub datum : Datum
  pub begins : StrictlyBeginsWith shape input datum rest
  pub made : makes datum t

-- a prefix of the input spells a datum, in different bytes than would be written for its columns
pub record BeginsOtherwise (shape : Shape) (input rest : List ℕ) : Type 0 where
  pub datum : Datum
  pub begins : BeginsWithDatum shape input datum rest
  pub other : StrictlyBeginsWith shape input datum rest → ⊥

-- Why a strict read of a prefix fails: an allocation failed; `not the written text` if a prefix spells a datum in
-- different bytes; and the other reasons only if no prefix spells one.
pub data IsStrictFrontRefusal (shape : Shape) (reason : Reason) (input rest : List ℕ) : Type 0 where
  no_memory_in_front : reason ≡ OutOfMemory → IsStrictFrontRefusal shape reason input rest
  other_front : reason ≡ NotTheWrittenText → BeginsOtherwise shape input rest → IsStrictFrontRefusal shape reason input rest
  no_front_spelled : IsReadingReason reason → ((d : Datum) (others : List ℕ) → BeginsWithDatum shape input d others → ⊥)
      → IsStrictFrontRefusal shape reason input rest
