-- The fields or the variant, or one reference too many. Written by `scripts/second_format`.
use Rattle.std.proofs.Common.{refl}
use Rattle.bitcode_serde_types.specs.Written.{Datum}
use Rattle.bitcode_serde_types.proofs.StepsRead.{too_deep_written}
use Rattle.bitcode_recursive_types.specs.NodeShape.{node_tree, node_step}
use Rattle.bitcode_recursive_types.specs.declared.node.Node.TheFolds.{fold_out-Node}
use Rattle.bitcode_recursive_types.proofs.node.NodeSerializeAs.+write.Goals as goal

pub returns-in_err-below : goal.returns-in_err-below
returns-in_err-below t c =
    too_deep_written node_tree refl _ c.args.place c.from_residual.result c.in_err-below.field-0.0 c.from_residual.ensures.1 c.in_err-below.ensures.refused c.args.writer.now _

pub returns : goal.returns
returns t c = rw (c.in_ok-below.ensures.followed, fold_out-Node Datum node_step c.args.self.now) c.write_tuple.ensures
