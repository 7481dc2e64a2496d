-- The answer.
use Rattle.bitcode_float_columns.specs.Split.{split_rest}
use Rattle.bitcode_float_columns.proofs.SplitLemmas.{split_judged}
use Rattle.bitcode_float_columns.proofs.split.read_f32s.Goals as goal

pub returns-clause-judged : goal.returns-clause-judged
returns-clause-judged c strict =
    split_judged c.are_canonical.result c.args.count c.args.input.now.now (split_rest c.unpack_f32s.new.out) c.unpack_f32s.new.input.now c.in_ok-unpack_f32s.ensures.read
    c.are_canonical.ensures
