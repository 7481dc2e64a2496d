-- How many nodes the data have that were read.
use Rattle.std.specs.Prelude.{◌≡◌, ℕ, List}
use Rattle.bitcode_columns.specs.Reading.{Reads}
use Rattle.bitcode_shapes.specs.Datum.{Datum, data_of}
use Rattle.bitcode_shapes.specs.Shape.{Shape}
use Rattle.bitcode_coder.specs.ColumnFree.{saturated}
use Rattle.bitcode_coder.specs.Spelling.{Spells}
use Rattle.bitcode_untyped.specs.Nodes.{node_counts}

-- So many data were read, and this is how many nodes they have in all. It does not go on after 2^128 - 1.
pub record CountsNodes (shape : Shape) (k : ℕ) (old new : List ℕ) (count : ℕ) : Type 0 where
  pub found : List Datum
  pub read : Reads (Spells shape) k old found new
  pub counted : saturated count ≡ saturated (node_counts (data_of found))
