-- By the variant.
use Rattle.std.proofs.Common.{refl}
use Rattle.bitcode_untyped.specs.ShapeTree.{unit_tree, tree_and, no_trees}
use Rattle.bitcode_serde_types.proofs.orderings.OrderingSerializeAs.write.Goals as goal

pub returns-in-Less : goal.returns-in-Less
returns-in-Less c =
    rw c.in-Less.is (c.write_variant.ensures (tree_and unit_tree (tree_and unit_tree (tree_and unit_tree no_trees))) refl)

pub returns-in-Equal : goal.returns-in-Equal
returns-in-Equal c =
    rw c.in-Equal.is (c.write_variant-in-Equal.ensures (tree_and unit_tree (tree_and unit_tree (tree_and unit_tree no_trees))) refl)

pub returns-in-Greater : goal.returns-in-Greater
returns-in-Greater c =
    rw c.in-Greater.is (c.write_variant-in-Greater.ensures (tree_and unit_tree (tree_and unit_tree (tree_and unit_tree no_trees))) refl)
