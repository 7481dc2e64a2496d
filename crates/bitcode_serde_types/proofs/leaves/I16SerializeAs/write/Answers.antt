-- The entry that the leaf is.
use Rattle.std.proofs.Common.{[], subst}
use Rattle.bitcode_untyped.specs.ShapeTree.{integer_tree}
use Rattle.bitcode_serde.specs.Serializing.{Outcome}
use Rattle.bitcode_serde_types.proofs.LeafData.{datum-I16}
use Rattle.bitcode_serde_types.proofs.leaves.I16SerializeAs.write.Goals as goal

pub returns : goal.returns
returns c =
    subst (λ d. Outcome c.args.writer.now (integer_tree 2) c.args.place d [] c.write_leaf.result c.write_leaf.new.writer) (datum-I16 c.args.self.now) c.write_leaf.ensures
