-- Strict reading: which of the bytes that spell data are those that are written for them.
use Rattle.std.specs.Prelude.{◌≡◌, ℕ, Bool, IsTrue, ◌&&◌, ◌↔◌, List, [], ◌++◌, length, All}
use Rattle.bitcode_columns.specs.Reading.{Reads}
use Rattle.bitcode_shapes.specs.Datum.{Datum}
use Rattle.bitcode_shapes.specs.Shape.{Shape, IsOf}
use Rattle.bitcode_coder.specs.Columns.{Kind, Columns, no_columns, one, two, arrays, CountsFit}
use Rattle.bitcode_coder.specs.Transposition.{columns_of}
use Rattle.bitcode_coder.specs.Spelling.{SpellsColumn, IsSplit, column_bytes}
use Rattle.bitcode_coder.specs.Coder.{written_columns}

-- a piece that spells its column, and is the text that would be written
pub record StrictlySpellsColumn (kind : Kind) (bytes : List ℕ) (entries : List Datum) : Type 0 where
  pub spelled : SpellsColumn kind bytes entries
  pub written : bytes ≡ column_bytes kind entries

-- one such piece for each column, from left to right
abbrev pub StrictlySpellsColumns : Columns → List ℕ → Type 0
StrictlySpellsColumns no_columns bytes = bytes ≡ []
StrictlySpellsColumns (one kind entries) bytes = StrictlySpellsColumn kind bytes entries
StrictlySpellsColumns (two first second) bytes = IsSplit (StrictlySpellsColumns first) (StrictlySpellsColumns second) bytes
StrictlySpellsColumns (arrays size count elements) bytes = StrictlySpellsColumns elements bytes

-- Bytes strictly spell data if they spell them and each piece is the text of its column.
pub record StrictlySpells (shape : Shape) (bytes : List ℕ) (ds : List Datum) : Type 0 where
  pub of_shape : All (IsOf shape) ds
  pub counts : CountsFit (columns_of shape ds)
  pub columns : StrictlySpellsColumns (columns_of shape ds) bytes

-- ---- what a reader answers

-- a column was read, and the answer is whether its piece is its text
pub record JudgesColumn (written : Bool) (kind : Kind) (entries : List Datum) (old new : List ℕ) : Type 0 where
  pub read : Reads (SpellsColumn kind) (length entries) old entries new
  pub answer : IsTrue written ↔ (old ≡ column_bytes kind entries ++ new)

-- two parts were read one after the other, and the answer combines theirs
pub record JudgesBoth (First Second : Bool → List ℕ → List ℕ → Type 0) (written : Bool) (old new : List ℕ) : Type 0 where
  pub middle : List ℕ
  pub first_written : Bool
  pub second_written : Bool
  pub both : written ≡ (first_written && second_written)
  pub first : First first_written old middle
  pub second : Second second_written middle new

-- The columns were read one after another, and the answer is whether each piece is the text of its column.
abbrev pub Judges : Columns → Bool → List ℕ → List ℕ → Type 0
Judges no_columns written old new = (old ≡ new) × IsTrue written
Judges (one kind entries) written old new = JudgesColumn written kind entries old new
Judges (two first second) written old new = JudgesBoth (Judges first) (Judges second) written old new
Judges (arrays size count elements) written old new = Judges elements written old new

-- the same for data of a shape (limits on lengths do not change the texts)
abbrev pub JudgesData : Shape → List Datum → Bool → List ℕ → List ℕ → Type 0
JudgesData shape ds = Judges (written_columns shape ds)
