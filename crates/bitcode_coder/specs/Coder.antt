-- What the calls of encoders and decoders do to their columns and data.
use Rattle.std.specs.Prelude.{◌≡◌, ◌≢◌, ℕ, ◌-◌, ◌^◌, List, [], ◌∷◌, ◌++◌, length, All, ◌⊎◌}
use Rattle.std.specs.List.{AllZip}
use Rattle.bitcode_memory.specs.declared.error.Reason.{Reason}
use Rattle.bitcode_memory.specs.declared.error.Reason.TheVariants.{Eof, ExpectedEof, InvalidPacking, LengthOverflow, HugeLength, InvalidUtf8, InvalidBitPattern, InvalidArrayVec, InvalidArrayString, InvalidEnumVariant, OutOfMemory}
use Rattle.bitcode_columns.specs.Reading.{Reads}
use Rattle.bitcode_shapes.specs.Datum.{Datum}
use Rattle.bitcode_shapes.specs.Shape.{Shape, IsOf}
use Rattle.bitcode_coder.specs.Columns.{Columns, beside, plain, CountsFit}
use Rattle.bitcode_coder.specs.Transposition.{columns_of}
use Rattle.bitcode_coder.specs.Spelling.{Spells, columns_bytes}

-- the room of an encoder that needs no memory
abbrev pub endless_room : ℕ
endless_room = 2 ^ 64 - 1

-- the columns that data of a shape add
abbrev pub written_columns : Shape → List Datum → Columns
written_columns shape ds = plain (columns_of shape ds)

-- the bytes after a call begin with the bytes before it
pub record BeginsWith (old new : List ℕ) : Type 0 where
  pub more : List ℕ
  pub whole : new ≡ old ++ more

-- The columns of one listing of the value were added to the old ones. If the numbers of arrays in the old columns fit
-- in a length, so do the new ones.
pub record JoinsListing {T : Type 0} (lists : T → Datum → Type 0) (shape : Shape) (t : T) (old new : Columns) : Type 0 where
  pub datum : Datum
  pub listing : lists t datum
  pub joined : new ≡ beside old (written_columns shape (datum ∷ []))
  pub fits : CountsFit old → CountsFit new

-- The bytes of a listing of the value, added to the old columns, follow the bytes from before.
pub record WritesListing {T : Type 0} (lists : T → Datum → Type 0) (shape : Shape) (t : T) (old : Columns) (before after : List ℕ) : Type 0 where
  pub new : Columns
  pub joined : JoinsListing lists shape t old new
  pub written : after ≡ before ++ columns_bytes new

-- with some listing of the value, a number of arrays does not fit in a length
pub record OverflowsWithListing {T : Type 0} (lists : T → Datum → Type 0) (shape : Shape) (t : T) (old : Columns) : Type 0 where
  pub datum : Datum
  pub listing : lists t datum
  pub overflows : CountsFit (beside old (written_columns shape (datum ∷ []))) → ⊥

-- The columns of a listing of each value were added to the old ones. If the numbers of arrays in the old columns fit in
-- a length, so do the new ones.
pub record JoinsEach {T : Type 0} (lists : T → Datum → Type 0) (shape : Shape) (values : List T) (old new : Columns) : Type 0 where
  pub parts : List Datum
  pub listings : AllZip lists values parts
  pub joined : new ≡ beside old (written_columns shape parts)
  pub fits : CountsFit old → CountsFit new

-- The bytes of a listing of each value, added to the old columns, follow the bytes from before.
pub record WritesEach {T : Type 0} (lists : T → Datum → Type 0) (shape : Shape) (values : List T) (old : Columns) (before after : List ℕ) : Type 0 where
  pub new : Columns
  pub joined : JoinsEach lists shape values old new
  pub written : after ≡ before ++ columns_bytes new

-- with some listing of each value, a number of arrays does not fit in a length
pub record OverflowsWithEach {T : Type 0} (lists : T → Datum → Type 0) (shape : Shape) (values : List T) (old : Columns) : Type 0 where
  pub parts : List Datum
  pub listings : AllZip lists values parts
  pub overflows : CountsFit (beside old (written_columns shape parts)) → ⊥

-- with any n more values, a number of arrays does not fit in a length
abbrev pub SurelyOverflows : Shape → Columns → ℕ → Type 0
SurelyOverflows shape old n = (ds : List Datum) → All (IsOf shape) ds → length ds ≡ n → CountsFit (beside old (written_columns shape ds)) → ⊥

-- why an encoder fails: an allocation failed, or a number of arrays does not fit in a length
abbrev pub IsWritingRefusal : Reason → Type 0 → Type 0
IsWritingRefusal reason Overflows = (reason ≡ OutOfMemory) ⊎ ((reason ≡ LengthOverflow) × Overflows)

-- the reasons of reading errors
abbrev pub IsReadingReason : Reason → Type 0
IsReadingReason Eof = Unit {0}
IsReadingReason ExpectedEof = Unit {0}
IsReadingReason InvalidPacking = Unit {0}
IsReadingReason LengthOverflow = Unit {0}
IsReadingReason HugeLength = Unit {0}
IsReadingReason InvalidUtf8 = Unit {0}
IsReadingReason InvalidBitPattern = Unit {0}
IsReadingReason InvalidArrayVec = Unit {0}
IsReadingReason InvalidArrayString = Unit {0}
IsReadingReason InvalidEnumVariant = Unit {0}
IsReadingReason OutOfMemory = Unit {0}
IsReadingReason _ = ⊥

-- an error other than a failed allocation comes only if no prefix of the input spells so many data
abbrev pub IsReadingRefusal : Shape → Reason → ℕ → List ℕ → Type 0
IsReadingRefusal shape reason k input =
    IsReadingReason reason × (reason ≢ OutOfMemory → (ds : List Datum) (rest : List ℕ) → Reads (Spells shape) k input ds rest → ⊥)

-- every listing of the other value is one of this value
abbrev pub ListsAsToo : {T U : Type 0} → (T → Datum → Type 0) → (U → Datum → Type 0) → T → U → Type 0
ListsAsToo lists other_lists t u = (d : Datum) → other_lists u d → lists t d

-- every datum that makes the other value makes this value
abbrev pub MakesToo : {T U : Type 0} → (Datum → T → Type 0) → (Datum → U → Type 0) → T → U → Type 0
MakesToo makes other_makes t u = (d : Datum) → other_makes d u → makes d t

-- the first of the data was taken, and makes the value
pub record TakesDatum {T : Type 0} (makes : Datum → T → Type 0) (t : T) (old new : List Datum) : Type 0 where
  pub datum : Datum
  pub taken : old ≡ datum ∷ new
  pub made : makes datum t

-- a prefix of the old input spells a datum that makes the value, and the new input is the rest
pub record ReadsValue {T : Type 0} (makes : Datum → T → Type 0) (shape : Shape) (old : List ℕ) (t : T) (new : List ℕ) : Type 0 where
  pub datum : Datum
  pub read : Reads (Spells shape) 1 old (datum ∷ []) new
  pub made : makes datum t

-- a prefix of the old input spells so many data, which make the items one by one, and the new input is the rest
pub record ReadsValues {T : Type 0} (makes : Datum → T → Type 0) (shape : Shape) (count : ℕ) (old : List ℕ) (items : List T) (new : List ℕ) : Type 0 where
  pub parts : List Datum
  pub read : Reads (Spells shape) count old parts new
  pub made : AllZip makes parts items

-- so many data were taken from the front, and make the items one by one
pub record TakesEach {T : Type 0} (makes : Datum → T → Type 0) (count : ℕ) (items : List T) (old new : List Datum) : Type 0 where
  pub size : length items ≡ count
  pub parts : List Datum
  pub taken : old ≡ parts ++ new
  pub made : AllZip makes parts items
