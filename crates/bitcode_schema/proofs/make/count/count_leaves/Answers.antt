-- As many nodes for each datum that was read.
use Rattle.std.proofs.Common.{false, arith}
use Rattle.bitcode_schema.specs.Forms.{shape_of}
use Rattle.bitcode_schema.proofs.CountedLemmas.{counts_each}
use Rattle.bitcode_schema.proofs.make.count.count_leaves.Goals as goal

pub returns : goal.returns
returns c = record {
  counted = λ each.
      counts_each c.args.k _ _ _ (shape_of c.args.node.now) c.args.nodes false _ c.in_ok-read.ensures.read each (omega (arith, c.saturating_mul.ensures));
}
