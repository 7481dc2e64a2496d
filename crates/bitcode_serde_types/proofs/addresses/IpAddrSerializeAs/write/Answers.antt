-- By the family.
use Rattle.std.proofs.Common.{refl}
use Rattle.bitcode_untyped.specs.ShapeTree.{natural_tree, tree_and, no_trees}
use Rattle.bitcode_serde_types.specs.Arrays.{array_tree}
use Rattle.bitcode_serde_types.proofs.addresses.IpAddrSerializeAs.write.Goals as goal

pub returns-in-V4 : goal.returns-in-V4
returns-in-V4 c =
    rw c.in-V4.is (c.write_variant.ensures (tree_and (array_tree 4 (natural_tree 1)) (tree_and (array_tree 16 (natural_tree 1)) no_trees)) refl)

pub returns-in-V6 : goal.returns-in-V6
returns-in-V6 c =
    rw c.in-V6.is (c.write_variant-in-V6.ensures (tree_and (array_tree 4 (natural_tree 1)) (tree_and (array_tree 16 (natural_tree 1)) no_trees)) refl)
