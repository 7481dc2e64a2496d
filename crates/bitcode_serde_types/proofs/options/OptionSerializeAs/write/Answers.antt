-- By the variant.
use Rattle.std.proofs.Common.{refl}
use Rattle.bitcode_untyped.specs.ShapeTree.{unit_tree, tree_and, no_trees}
use Rattle.bitcode_serde_types.proofs.options.OptionSerializeAs.write.Goals as goal

pub returns-in-None : goal.returns-in-None
returns-in-None g c = rw c.in-None.is (c.write_variant.ensures (tree_and unit_tree (tree_and (g.T.HasShape.tree c.args.left) no_trees)) refl)

pub returns-in-Some : goal.returns-in-Some
returns-in-Some g c = rw c.in-Some.is (c.write_variant-in-Some.ensures (tree_and unit_tree (tree_and (g.T.HasShape.tree c.args.left) no_trees)) refl)
