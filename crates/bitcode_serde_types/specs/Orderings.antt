-- The shape and the content of an ordering.
use Rattle.std.specs.declared.cmp.Ordering.{Ordering}
use Rattle.std.specs.declared.cmp.Ordering.TheVariants.{Less, Equal, Greater}
use Rattle.bitcode_shapes.specs.Datum.{Datum, choice, unit}
use Rattle.bitcode_untyped.specs.ShapeTree.{ShapeTree, unit_tree, choice_tree, tree_and, no_trees}

abbrev pub ordering_tree : ShapeTree
ordering_tree = choice_tree (tree_and unit_tree (tree_and unit_tree (tree_and unit_tree no_trees)))

abbrev pub ordering_datum : Ordering → Datum
ordering_datum Less = choice 0 unit
ordering_datum Equal = choice 1 unit
ordering_datum Greater = choice 2 unit
