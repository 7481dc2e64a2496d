-- By the family.
use Rattle.std.proofs.Common.{refl}
use Rattle.bitcode_untyped.specs.ShapeTree.{ShapeTree, natural_tree, tuple_tree, tree_and, no_trees}
use Rattle.bitcode_serde_types.specs.Arrays.{array_tree}
use Rattle.bitcode_serde_types.proofs.addresses.SocketAddrSerializeAs.write.Goals as goal

abbrev with_port : ShapeTree → ShapeTree
with_port ip = tuple_tree (tree_and ip (tree_and (natural_tree 2) no_trees))

pub returns-in-V4 : goal.returns-in-V4
returns-in-V4 c =
    rw c.in-V4.is (c.write_variant.ensures
    (tree_and (with_port (array_tree 4 (natural_tree 1))) (tree_and (with_port (array_tree 16 (natural_tree 1))) no_trees)) refl)

pub returns-in-V6 : goal.returns-in-V6
returns-in-V6 c =
    rw c.in-V6.is (c.write_variant-in-V6.ensures
    (tree_and (with_port (array_tree 4 (natural_tree 1))) (tree_and (with_port (array_tree 16 (natural_tree 1))) no_trees)) refl)
