-- The entry that the leaf is.
use Rattle.std.proofs.Common.{[], subst}
use Rattle.bitcode_untyped.specs.ShapeTree.{bool_tree}
use Rattle.bitcode_serde.specs.Serializing.{Outcome}
use Rattle.bitcode_serde_types.proofs.LeafData.{datum-Bool}
use Rattle.bitcode_serde_types.proofs.leaves.BoolSerializeAs.write.Goals as goal

pub returns : goal.returns
returns c =
    subst (λ d. Outcome c.args.writer.now bool_tree c.args.place d [] c.write_leaf.result c.write_leaf.new.writer) (datum-Bool c.args.self.now) c.write_leaf.ensures
