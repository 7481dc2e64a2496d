-- How bytes spell a datum of a shape, and the bytes that are written for it.
use Rattle.std.specs.Prelude.{ℕ, List}
use Rattle.bitcode_shapes.specs.Datum.{Datum}
use Rattle.bitcode_coder.specs.Spelling.{SpellsEach, texts_of}
use Rattle.bitcode_untyped.specs.ShapeTree.{ShapeTree, IsOf}
use Rattle.bitcode_untyped.specs.PlacedColumns.{columns_of, unplaced}
use Rattle.bitcode_untyped.specs.Bounds.{IsLimited}

-- Accepted: the datum is of the shape and within the limit on what has no column, and the bytes are one piece for each
-- of its columns, in order, each piece spelling its column.
pub record SpellsDatum (shape : ShapeTree) (bytes : List ℕ) (d : Datum) : Type 0 where
  pub of_shape : IsOf shape d
  pub limited : IsLimited shape d
  pub columns : SpellsEach (unplaced (columns_of shape d)) bytes

-- Written: the texts of its columns.
abbrev pub datum_text : ShapeTree → Datum → List ℕ
datum_text shape d = texts_of (unplaced (columns_of shape d))
