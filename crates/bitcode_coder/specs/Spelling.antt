-- How bytes spell columns, and the bytes that are written for them.
use Rattle.std.specs.Prelude.{◌≡◌, ℕ, ◌^◌, ◌<◌, pos, Bool, List, [], ◌∷◌, ◌++◌, length, map, All, sum, ◌==◌}
use Rattle.std.specs.Float.{Format, binary32, binary64}
use Rattle.bitcode_memory.specs.Ints.{number_of, bool_digit}
use Rattle.bitcode_columns.specs.BoolColumn.{SpellsBools, bool_text}
use Rattle.bitcode_columns.specs.IntColumn.{SpellsInts, int_text}
use Rattle.bitcode_columns.specs.VariantColumn.{SpellsVariants, variant_text}
use Rattle.bitcode_float_columns.specs.FloatColumn.{canonical, SpellsSplit, split_text}
use Rattle.bitcode_shapes.specs.Datum.{Datum, number, text, number_in, natural_in, text_in}
use Rattle.bitcode_shapes.specs.Shape.{Shape, IsOf}
use Rattle.bitcode_coder.specs.LengthColumn.{SpellsLengths, length_bytes, length_limit}
use Rattle.bitcode_coder.specs.TextColumn.{SpellsTexts, texts_bytes}
use Rattle.bitcode_coder.specs.Columns.{Kind, Column, Columns, bools, ints, floats, lengths, texts, raws, variants, no_columns, one, two, arrays, CountsFit}
use Rattle.bitcode_coder.specs.Transposition.{columns_of}

abbrev pub natural : ℕ → Datum
natural n = number (pos n)

abbrev pub truth : Bool → Datum
truth b = natural (bool_digit b)

abbrev pub number_of_residue : ℕ → Bool → ℕ → Datum
number_of_residue width signed n = number (number_of width signed n)

-- the datum of the float with these bits
abbrev pub float_of_bits : Format → ℕ → Datum
float_of_bits format bits = natural (canonical format bits)

-- the data are these entries, which the bytes spell
pub record SpellsAs {Entry : Type 0} (datum : Entry → Datum) (Spells : List ℕ → List Entry → Type 0) (bytes : List ℕ) (ds : List Datum) : Type 0 where
  pub entries : List Entry
  pub are : ds ≡ map datum entries
  pub spelled : Spells bytes entries

pub record SpellsIntsInWidth (width : ℕ) (bytes entries : List ℕ) : Type 0 where
  pub spelled : SpellsInts width bytes entries
  pub in_width : All (λ n. n < 256 ^ width) entries

-- the bits of floats, whatever those of a NaN are
abbrev pub SpellsBits : Format → List ℕ → List ℕ → Type 0
SpellsBits binary32 = SpellsSplit
SpellsBits binary64 = SpellsIntsInWidth 8

-- ---- accepted

abbrev pub SpellsColumn : Kind → List ℕ → List Datum → Type 0
SpellsColumn bools = SpellsAs truth SpellsBools
SpellsColumn (ints width signed) = SpellsAs (number_of_residue width signed) (SpellsIntsInWidth width)
SpellsColumn (floats format) = SpellsAs (float_of_bits format) (SpellsBits format)
SpellsColumn (lengths limit) = SpellsAs natural (SpellsLengths limit)
SpellsColumn (texts limit) = SpellsAs text (SpellsTexts limit)
SpellsColumn raws = SpellsAs natural (λ bytes entries. bytes ≡ entries)
SpellsColumn (variants count) = SpellsAs natural (SpellsVariants count)

-- one piece, followed by another
pub record IsSplit (First Second : List ℕ → Type 0) (bytes : List ℕ) : Type 0 where
  pub front : List ℕ
  pub back : List ℕ
  pub whole : bytes ≡ front ++ back
  pub first : First front
  pub second : Second back

-- one piece for each column, from left to right
abbrev pub SpellsColumns : Columns → List ℕ → Type 0
SpellsColumns no_columns bytes = bytes ≡ []
SpellsColumns (one kind entries) bytes = SpellsColumn kind bytes entries
SpellsColumns (two first second) bytes = IsSplit (SpellsColumns first) (SpellsColumns second) bytes
SpellsColumns (arrays size count elements) bytes = SpellsColumns elements bytes

-- the same of the columns as a list
abbrev pub SpellsEach : List Column → List ℕ → Type 0
SpellsEach [] bytes = bytes ≡ []
SpellsEach (column ∷ columns) bytes = IsSplit (λ front. SpellsColumn column.kind front column.entries) (SpellsEach columns) bytes

-- Bytes spell data of a shape if the data have the shape, the counts of arrays fit in lengths, and the bytes are one
-- piece for each of the data's columns, in order, where each piece spells its column.
pub record Spells (shape : Shape) (bytes : List ℕ) (ds : List Datum) : Type 0 where
  pub of_shape : All (IsOf shape) ds
  pub counts : CountsFit (columns_of shape ds)
  pub columns : SpellsColumns (columns_of shape ds) bytes

-- ---- written

abbrev pub bits_text : Format → List ℕ → List ℕ
bits_text binary32 bits = split_text bits
bits_text binary64 bits = int_text 8 (map pos bits)

abbrev pub column_bytes : Kind → List Datum → List ℕ
column_bytes bools ds = bool_text (map (λ d. natural_in d == 1) ds)
column_bytes (ints width signed) ds = int_text width (map number_in ds)
column_bytes (floats format) ds = bits_text format (map natural_in ds)
column_bytes (lengths limit) ds = length_bytes (map natural_in ds)
column_bytes (texts limit) ds = texts_bytes (map text_in ds)
column_bytes raws ds = map natural_in ds
column_bytes (variants count) ds = variant_text count (map natural_in ds)

abbrev pub columns_bytes : Columns → List ℕ
columns_bytes no_columns = []
columns_bytes (one kind entries) = column_bytes kind entries
columns_bytes (two first second) = columns_bytes first ++ columns_bytes second
columns_bytes (arrays size count elements) = columns_bytes elements

-- the texts of a list of columns, joined
abbrev pub texts_of : List Column → List ℕ
texts_of [] = []
texts_of (column ∷ columns) = column_bytes column.kind column.entries ++ texts_of columns

-- What is written is read back if each column of lengths, including those of texts, has a sum below the limit.
abbrev pub LengthsBelowLimitOf : Kind → List Datum → Type 0
LengthsBelowLimitOf (lengths limit) ds = sum (map natural_in ds) < length_limit
LengthsBelowLimitOf (texts limit) ds = sum (map (λ d. length (text_in d)) ds) < length_limit
LengthsBelowLimitOf _ ds = Unit {0}

abbrev pub LengthsBelowLimit : Columns → Type 0
LengthsBelowLimit no_columns = Unit {0}
LengthsBelowLimit (one kind entries) = LengthsBelowLimitOf kind entries
LengthsBelowLimit (two first second) = LengthsBelowLimit first × LengthsBelowLimit second
LengthsBelowLimit (arrays size count elements) = LengthsBelowLimit elements
