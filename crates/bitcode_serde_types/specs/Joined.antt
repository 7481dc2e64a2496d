-- The fields of a tuple in two parts, the second behind the first.
use Rattle.std.specs.Prelude.{ℕ, suc}
use Rattle.bitcode_shapes.specs.Datum.{Data, no_data, datum_and}
use Rattle.bitcode_untyped.specs.ShapeTree.{ShapeTrees, no_trees, tree_and}

abbrev pub joined : ShapeTrees → ShapeTrees → ShapeTrees
joined no_trees rest = rest
joined (tree_and s ss) rest = tree_and s (joined ss rest)

abbrev pub joined_data : Data → Data → Data
joined_data no_data rest = rest
joined_data (datum_and d ds) rest = datum_and d (joined_data ds rest)

abbrev pub data_count : Data → ℕ
data_count no_data = 0
data_count (datum_and d ds) = suc (data_count ds)
