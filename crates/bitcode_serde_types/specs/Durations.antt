-- The shape and the content of a duration.
use Rattle.std.specs.Prelude.{ℕ, false}
use Rattle.std.specs.declared.time.Duration.{Duration}
use Rattle.bitcode_shapes.specs.Checked.{below_second}
use Rattle.bitcode_shapes.specs.Datum.{Datum, pair}
use Rattle.bitcode_shapes.specs.Durations.{seconds_and_nanos}
use Rattle.bitcode_shapes.specs.LawfulInts.{width_4, width_8}
use Rattle.bitcode_coder.specs.Columns.{ints}
use Rattle.bitcode_coder.specs.Spelling.{natural}
use Rattle.bitcode_untyped.specs.ShapeTree.{ShapeTree, natural_tree, leaf_tree, tuple_tree, tree_and, no_trees, IsSound}

-- nanoseconds below one second
abbrev pub nanosecond_tree : ShapeTree
nanosecond_tree = leaf_tree (ints 4 false) below_second

-- seconds and nanoseconds
abbrev pub duration_tree : ShapeTree
duration_tree = tuple_tree (tree_and (natural_tree 8) (tree_and nanosecond_tree no_trees))

abbrev pub duration_datum : Duration → Datum
duration_datum t = pair (natural (seconds_and_nanos t).0) (natural (seconds_and_nanos t).1)

pub duration_sound : (left : ℕ) → IsSound duration_tree
duration_sound left = (width_8, (width_4, tt))
