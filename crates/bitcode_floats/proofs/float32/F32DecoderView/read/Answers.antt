-- The bits that were read, as data.
use Rattle.bitcode_float_columns.specs.Split.{split_rest}
use Rattle.bitcode_floats.proofs.FloatLemmas.{split_read, split_refused, split_judged_data}
use Rattle.bitcode_floats.proofs.float32.F32DecoderView.read.Goals as goal

pub returns-clause-read : goal.returns-clause-read
returns-clause-read c =
    split_read c.read_f32s.result c.args.k c.args.input.now.now (split_rest c.read_f32s.new.out) c.read_f32s.new.input.now c.read_f32s.ensures.read

pub returns-clause-judged : goal.returns-clause-judged
returns-clause-judged c strict =
    split_judged_data c.read_f32s.result c.args.k c.args.input.now.now (split_rest c.read_f32s.new.out) c.read_f32s.new.input.now c.read_f32s.ensures.read
    (c.read_f32s.ensures.judged strict)

pub returns-clause-refused : goal.returns-clause-refused
returns-clause-refused c = split_refused c.read_f32s.result c.args.k c.args.input.now.now c.read_f32s.ensures.refused
