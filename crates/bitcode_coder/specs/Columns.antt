-- Columns of data. A column has a kind and entries. The columns of a shape form a tree that follows the shape. From
-- left to right they form a list, and the bytes follow that list.
use Rattle.std.specs.Prelude.{◌≡◌, ℕ, ◌+◌, ◌*◌, ◌<◌, ◌^◌, ◌≤◌, pos, Bool, Option, None, List, [], ◌∷◌, ◌++◌, length, sum_by}
use Rattle.std.specs.Float.{Format}
use Rattle.bitcode_shapes.specs.Datum.{Datum, number, text_in}
use Rattle.bitcode_shapes.specs.Shape.{IsNumberWidth, IsNaturalBelow, IsNumberOf, IsFloatOf, IsTextOf, IsWithin, any_number}

pub data Kind : Type 0 where
  bools : Kind
  -- integers of a width in bytes, signed (true) or not
  ints : ℕ → Bool → Kind
  -- the bits of floats
  floats : Format → Kind
  -- lengths and texts, limited to so much if a decoder has a limit
  lengths : Option ℕ → Kind
  texts : Option ℕ → Kind
  -- bytes of texts
  raws : Kind
  -- one of so many variants
  variants : ℕ → Kind

pub record Column : Type 0 where
  pub kind : Kind
  pub entries : List Datum

pub data Columns : Type 0 where
  no_columns : Columns
  one : Kind → List Datum → Columns
  two : Columns → Columns → Columns
  -- the columns of the elements of so many arrays of a size
  arrays : ℕ → ℕ → Columns → Columns

-- the columns from left to right
abbrev pub flat : Columns → List Column
flat no_columns = []
flat (one kind entries) = record { kind = kind; entries = entries } ∷ []
flat (two first second) = flat first ++ flat second
flat (arrays size count elements) = flat elements

-- each column of the first, followed by that of the second; no columns if the two have different forms
abbrev pub beside : Columns → Columns → Columns
beside (one kind entries) (one _ more) = one kind (entries ++ more)
beside (two first second) (two third fourth) = two (beside first third) (beside second fourth)
beside (arrays size count elements) (arrays _ more others) = arrays size (count + more) (beside elements others)
beside _ _ = no_columns

-- the same columns, with no limit on lengths
abbrev pub plain_kind : Kind → Kind
plain_kind (lengths limit) = lengths None
plain_kind (texts limit) = texts None
plain_kind kind = kind

abbrev pub plain : Columns → Columns
plain no_columns = no_columns
plain (one kind entries) = one (plain_kind kind) entries
plain (two first second) = two (plain first) (plain second)
plain (arrays size count elements) = arrays size count (plain elements)

-- the same columns, without entries
abbrev pub emptied : Columns → Columns
emptied no_columns = no_columns
emptied (one kind entries) = one kind []
emptied (two first second) = two (emptied first) (emptied second)
emptied (arrays size count elements) = arrays size 0 (emptied elements)

-- at each node, the number of arrays times their size fits in a length
abbrev pub CountsFit : Columns → Type 0
CountsFit no_columns = Unit {0}
CountsFit (one kind entries) = Unit {0}
CountsFit (two first second) = CountsFit first × CountsFit second
CountsFit (arrays size count elements) = (count * size < 2 ^ 64) × CountsFit elements

-- how many entries there are; a text counts once, and once for each of its bytes
abbrev pub entry_count_of : Kind → List Datum → ℕ
entry_count_of (texts limit) entries = length entries + sum_by (λ d. length (text_in d)) entries
entry_count_of _ entries = length entries

abbrev pub entry_count : Columns → ℕ
entry_count no_columns = 0
entry_count (one kind entries) = entry_count_of kind entries
entry_count (two first second) = entry_count first + entry_count second
entry_count (arrays size count elements) = entry_count elements

-- ---- what the entries of a column are

-- a kind with a possible width or number of variants
abbrev pub IsSoundKind : Kind → Type 0
IsSoundKind (ints width signed) = IsNumberWidth width
IsSoundKind (variants count) = (2 ≤ count) × (count ≤ 256)
IsSoundKind _ = Unit {0}

abbrev pub IsEntryOf : Kind → Datum → Type 0
IsEntryOf bools d = IsNaturalBelow 2 d
IsEntryOf (ints width signed) d = IsNumberOf width signed any_number d
IsEntryOf (floats format) d = IsFloatOf format d
IsEntryOf (lengths limit) d = (n : ℕ) × ((d ≡ number (pos n)) × IsWithin limit n)
IsEntryOf (texts limit) d = IsTextOf limit d
IsEntryOf raws d = IsNaturalBelow 256 d
IsEntryOf (variants count) d = IsNaturalBelow count d
