-- The shape and the content of a result.
use Rattle.std.specs.Prelude.{Result, Ok, Err}
use Rattle.bitcode_shapes.specs.Datum.{Datum, choice}
use Rattle.bitcode_untyped.specs.ShapeTree.{ShapeTree, choice_tree, tree_and, no_trees}

abbrev pub result_tree : ShapeTree → ShapeTree → ShapeTree
result_tree ok err = choice_tree (tree_and ok (tree_and err no_trees))

abbrev pub result_datum : {A B : Type 0} → (A → Datum) → (B → Datum) → Result A B → Datum
result_datum f g (Ok a) = choice 0 (f a)
result_datum f g (Err b) = choice 1 (g b)
