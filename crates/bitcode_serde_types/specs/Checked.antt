-- The shapes of integers that are not 0.
use Rattle.std.specs.Prelude.{ℕ, true, false}
use Rattle.bitcode_shapes.specs.Shape.{nonzero}
use Rattle.bitcode_coder.specs.Columns.{ints}
use Rattle.bitcode_untyped.specs.ShapeTree.{ShapeTree, leaf_tree}

abbrev pub nonzero_natural_tree : ℕ → ShapeTree
nonzero_natural_tree width = leaf_tree (ints width false) nonzero

abbrev pub nonzero_integer_tree : ℕ → ShapeTree
nonzero_integer_tree width = leaf_tree (ints width true) nonzero
