-- What the calls for whole values write and read: one value, and all of the input.
use Rattle.std.specs.Prelude.{◌≡◌, ◌≢◌, refl, ℕ, ◌*◌, ◌<◌, ◌≤◌, Bool, IsTrue, List, [], ◌∷◌, length}
use Rattle.bitcode_memory.specs.declared.error.Reason.{Reason}
use Rattle.bitcode_memory.specs.declared.error.Reason.TheVariants.{ExpectedEof, OutOfMemory}
use Rattle.bitcode_columns.specs.Reading.{Reads}
use Rattle.bitcode_shapes.specs.Datum.{Datum}
use Rattle.bitcode_shapes.specs.Shape.{Shape}
use Rattle.bitcode_coder.specs.Columns.{Columns, CountsFit, entry_count}
use Rattle.bitcode_coder.specs.FirstFault.{IsFirstFault}
use Rattle.bitcode_coder.specs.Transposition.{columns_of, spread}
use Rattle.bitcode_coder.specs.Spelling.{Spells, LengthsBelowLimit, texts_of}

-- the columns of one datum, as a tree
abbrev pub columns_of_one : Shape → Datum → Columns
columns_of_one shape d = columns_of shape (d ∷ [])

-- The bytes are the concatenated texts of the columns of one listing of the value, whose numbers of arrays fit in
-- lengths.
pub record IsEncodingOf {T : Type 0} (lists : T → Datum → Type 0) (shape : Shape) (t : T) (bytes : List ℕ) : Type 0 where
  pub datum : Datum
  pub listing : lists t datum
  pub counts : CountsFit (columns_of_one shape datum)
  pub written : bytes ≡ texts_of (spread shape (datum ∷ []))

-- in some listing of the value some number of arrays times their size does not fit in a length
pub record HasLongListing {T : Type 0} (lists : T → Datum → Type 0) (shape : Shape) (t : T) : Type 0 where
  pub datum : Datum
  pub listing : lists t datum
  pub overflows : CountsFit (columns_of_one shape datum) → ⊥

-- in each listing of the value the lengths of each column have a sum below the limit
abbrev pub HasShortLengths : {T : Type 0} → (T → Datum → Type 0) → Shape → T → Type 0
HasShortLengths lists shape t = (d : Datum) → lists t d → LengthsBelowLimit (columns_of_one shape d)

-- the whole input spells the one datum
abbrev pub SpellsDatum : Shape → List ℕ → Datum → Type 0
SpellsDatum shape bytes d = Spells shape bytes (d ∷ [])

-- the whole input spells a datum that makes the value
pub record IsDecodingOf {T : Type 0} (makes : Datum → T → Type 0) (shape : Shape) (bytes : List ℕ) (t : T) : Type 0 where
  pub datum : Datum
  pub spelled : SpellsDatum shape bytes datum
  pub made : makes datum t

-- the whole input spells at most one datum
abbrev pub SpellsAtMostOne : Shape → List ℕ → Type 0
SpellsAtMostOne shape bytes = (d e : Datum) → SpellsDatum shape bytes d → SpellsDatum shape bytes e → d ≡ e

-- all columns of a datum together have at most eight times as many entries as bytes
abbrev pub IsBoundedByBytes : Shape → List ℕ → Type 0
IsBoundedByBytes shape bytes = (d : Datum) → SpellsDatum shape bytes d → entry_count (columns_of_one shape d) ≤ 8 * length bytes

-- a prefix of the input spells one datum, and bytes are left after it
pub record LeavesBytes (shape : Shape) (bytes : List ℕ) : Type 0 where
  pub read_data : List Datum
  pub rest : List ℕ
  pub read : Reads (Spells shape) 1 bytes read_data rest
  pub left : 0 < length rest

-- What an error for a whole input reports: the first fault of reading one datum; if it can be read, that bytes are left
-- after it; if the whole input spells it, a failed allocation for the value, unless making it does not allocate.
pub data NamesWholeFault (makes_free : Bool) (shape : Shape) (reason : Reason) (bytes : List ℕ) : Type 0 where
  in_columns : IsFirstFault shape reason 1 bytes → NamesWholeFault makes_free shape reason bytes
  bytes_left : reason ≡ ExpectedEof → LeavesBytes shape bytes → NamesWholeFault makes_free shape reason bytes
  in_making : reason ≡ OutOfMemory → (IsTrue makes_free → ⊥) → (d : Datum) → SpellsDatum shape bytes d → NamesWholeFault makes_free shape reason bytes

-- a reason that cannot differ from a failed allocation is a failed allocation
pub want_of_memory : (reason : Reason) → (reason ≢ OutOfMemory → ⊥) → reason ≡ OutOfMemory
want_of_memory OutOfMemory h = refl
want_of_memory _ h = absurd (h (λ e. cc))
