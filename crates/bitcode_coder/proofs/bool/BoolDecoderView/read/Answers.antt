-- The answer of the column, in terms of data.
use Rattle.bitcode_memory.specs.Fast.{cow_rest}
use Rattle.bitcode_coder.proofs.StrictColumnLemmas.{bools_judged}
use Rattle.bitcode_coder.proofs.bool.BoolDecoderView.read.Goals as goal

pub returns-clause-judged : goal.returns-clause-judged
returns-clause-judged c strict =
    bools_judged c.read_bools.result c.args.k c.args.input.now.now (cow_rest c.read_bools.new.out) c.read_bools.new.input.now c.read_bools.ensures.read (c.read_bools.ensures.judged strict)
