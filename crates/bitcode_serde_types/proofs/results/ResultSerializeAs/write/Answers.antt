-- By the variant.
use Rattle.std.proofs.Common.{refl}
use Rattle.bitcode_untyped.specs.ShapeTree.{tree_and, no_trees}
use Rattle.bitcode_serde_types.proofs.results.ResultSerializeAs.write.Goals as goal

pub returns-in-Ok : goal.returns-in-Ok
returns-in-Ok g c =
    rw c.in-Ok.is (c.write_variant.ensures (tree_and (g.T.HasShape.tree c.args.left) (tree_and (g.E.HasShape.tree c.args.left) no_trees)) refl)

pub returns-in-Err : goal.returns-in-Err
returns-in-Err g c =
    rw c.in-Err.is (c.write_variant-in-Err.ensures (tree_and (g.T.HasShape.tree c.args.left) (tree_and (g.E.HasShape.tree c.args.left) no_trees)) refl)
