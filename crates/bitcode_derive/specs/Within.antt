-- Decoding within a limit on the number of elements without columns, which no number of bytes bounds.
use Rattle.std.specs.Prelude.{◌≡◌, ℕ, ◌<◌, ◌≤◌, Bool, IsTrue, List, [], ◌∷◌}
use Rattle.bitcode_memory.specs.declared.error.Reason.{Reason}
use Rattle.bitcode_memory.specs.declared.error.Reason.TheVariants.{ExpectedEof, OutOfMemory, TooManyZeroSizedTypes}
use Rattle.bitcode_shapes.specs.Datum.{Datum}
use Rattle.bitcode_shapes.specs.Shape.{Shape}
use Rattle.bitcode_coder.specs.Coder.{IsReadingReason}
use Rattle.bitcode_coder.specs.ColumnFree.{free_count}
use Rattle.bitcode_coder.specs.FirstFault.{IsFirstFault}
use Rattle.bitcode_derive.specs.Whole.{SpellsDatum, LeavesBytes}

-- how many elements without columns a datum of a shape has in all
abbrev pub free_in_one : Shape → Datum → ℕ
free_in_one shape d = free_count shape (d ∷ [])

-- the whole input spells a datum that makes the value and has at most so many elements without columns
pub record IsDecodingWithin {T : Type 0} (most : ℕ) (makes : Datum → T → Type 0) (shape : Shape) (bytes : List ℕ) (t : T) : Type 0 where
  pub datum : Datum
  pub spelled : SpellsDatum shape bytes datum
  pub within : free_in_one shape datum ≤ most
  pub made : makes datum t

-- the whole input spells a datum with more elements without columns
pub record ExceedsLimit (most : ℕ) (shape : Shape) (bytes : List ℕ) : Type 0 where
  pub datum : Datum
  pub spelled : SpellsDatum shape bytes datum
  pub over : most < free_in_one shape datum

-- Why decoding within a limit fails: an allocation failed; `too many zero sized types` if the input spells a datum that
-- exceeds the limit; and the other reasons only if the input spells no datum.
pub data IsRefusalWithin (most : ℕ) (shape : Shape) (reason : Reason) (bytes : List ℕ) : Type 0 where
  no_memory : reason ≡ OutOfMemory → IsRefusalWithin most shape reason bytes
  over_limit : reason ≡ TooManyZeroSizedTypes → ExceedsLimit most shape bytes → IsRefusalWithin most shape reason bytes
  none_spelled : IsReadingReason reason → ((d : Datum) → SpellsDatum shape bytes d → ⊥) → IsRefusalWithin most shape reason bytes

-- What the error reports: the first fault of reading one datum; if it can be read, that bytes are left after it; if the
-- whole input spells it, that it exceeds the limit; if it does not, a failed allocation for the value, unless making it
-- does not allocate.
pub data NamesFaultWithin (most : ℕ) (makes_free : Bool) (shape : Shape) (reason : Reason) (bytes : List ℕ) : Type 0 where
  in_columns : IsFirstFault shape reason 1 bytes → NamesFaultWithin most makes_free shape reason bytes
  bytes_left : reason ≡ ExpectedEof → LeavesBytes shape bytes → NamesFaultWithin most makes_free shape reason bytes
  over : reason ≡ TooManyZeroSizedTypes → ExceedsLimit most shape bytes → NamesFaultWithin most makes_free shape reason bytes
  in_making : reason ≡ OutOfMemory → (IsTrue makes_free → ⊥) → (d : Datum) → SpellsDatum shape bytes d → free_in_one shape d ≤ most
      → NamesFaultWithin most makes_free shape reason bytes
