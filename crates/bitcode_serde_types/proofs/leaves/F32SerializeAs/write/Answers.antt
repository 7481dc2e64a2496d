-- The entry that the leaf is.
use Rattle.std.proofs.Common.{[], subst}
use Rattle.std.specs.Float.{binary32}
use Rattle.bitcode_untyped.specs.ShapeTree.{float_tree}
use Rattle.bitcode_serde.specs.Serializing.{Outcome}
use Rattle.bitcode_serde_types.proofs.LeafData.{datum-F32}
use Rattle.bitcode_serde_types.proofs.leaves.F32SerializeAs.write.Goals as goal

pub returns : goal.returns
returns c =
    subst (λ d. Outcome c.args.writer.now (float_tree binary32) c.args.place d [] c.write_leaf.result c.write_leaf.new.writer) (datum-F32 c.args.self.now) c.write_leaf.ensures
