-- The entry that the leaf is.
use Rattle.std.proofs.Common.{[], subst}
use Rattle.std.specs.Float.{binary64}
use Rattle.bitcode_untyped.specs.ShapeTree.{float_tree}
use Rattle.bitcode_serde.specs.Serializing.{Outcome}
use Rattle.bitcode_serde_types.proofs.LeafData.{datum-F64}
use Rattle.bitcode_serde_types.proofs.leaves.F64SerializeAs.write.Goals as goal

pub returns : goal.returns
returns c =
    subst (λ d. Outcome c.args.writer.now (float_tree binary64) c.args.place d [] c.write_leaf.result c.write_leaf.new.writer) (datum-F64 c.args.self.now) c.write_leaf.ensures
