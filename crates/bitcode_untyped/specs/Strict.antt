-- Strict reading: a datum in the bytes that are written for its columns.
use Rattle.std.specs.Prelude.{◌≡◌, ℕ, Bool, IsTrue, List, [], ◌∷◌}
use Rattle.bitcode_shapes.specs.Datum.{Datum}
use Rattle.bitcode_coder.specs.Columns.{Column}
use Rattle.bitcode_coder.specs.Spelling.{IsSplit}
use Rattle.bitcode_coder.specs.Strict.{StrictlySpellsColumn, JudgesColumn, JudgesBoth}
use Rattle.bitcode_untyped.specs.ShapeTree.{ShapeTree, IsOf}
use Rattle.bitcode_untyped.specs.PlacedColumns.{columns_of, unplaced}
use Rattle.bitcode_untyped.specs.Bounds.{IsLimited}

-- one piece for each column, from left to right, each the text of its column
abbrev pub StrictlySpellsEach : List Column → List ℕ → Type 0
StrictlySpellsEach [] bytes = bytes ≡ []
StrictlySpellsEach (column ∷ columns) bytes = IsSplit (λ front. StrictlySpellsColumn column.kind front column.entries) (StrictlySpellsEach columns) bytes

-- Bytes strictly spell a datum where they spell it, each piece being the text of its column.
pub record StrictlySpellsDatum (shape : ShapeTree) (bytes : List ℕ) (d : Datum) : Type 0 where
  pub of_shape : IsOf shape d
  pub limited : IsLimited shape d
  pub columns : StrictlySpellsEach (unplaced (columns_of shape d)) bytes

-- The columns were read, one behind the other, and the answer is whether the piece of each is its text.
abbrev pub JudgesEach : List Column → Bool → List ℕ → List ℕ → Type 0
JudgesEach [] written old new = (old ≡ new) × IsTrue written
JudgesEach (column ∷ columns) written old new =
    JudgesBoth (λ answer before behind. JudgesColumn answer column.kind column.entries before behind) (JudgesEach columns) written old new
