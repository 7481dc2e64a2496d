-- The bits that were read.
use Rattle.std.proofs.Common.{arith}
use Rattle.bitcode_float_columns.specs.Split.{split_rest}
use Rattle.bitcode_float_columns.proofs.SplitLemmas.{split_reads}
use Rattle.bitcode_float_columns.proofs.split.unpack_f32s.Goals as goal

pub returns-clause-read : goal.returns-clause-read
unfolding split_rest
returns-clause-read c =
    rw (c.from-out.ensures, c.from-out-2.ensures)
    (split_reads c.args.count c.args.input.now.now c.split_at.result.0.now c.split_at.result.1.now c.split_at-2.result.0.now c.split_at-2.result.1.now
    c.known_bytes.ensures (omega arith) c.split_at.ensures.front c.split_at.ensures.back c.split_at-2.ensures.front c.split_at-2.ensures.back)
