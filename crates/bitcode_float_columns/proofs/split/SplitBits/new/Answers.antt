-- No bits.
use Rattle.std.proofs.Common.{ap}
use Rattle.bitcode_memory.specs.Fast.{slice_rest}
use Rattle.bitcode_float_columns.specs.Split.{split_rest, joined_bits}
use Rattle.bitcode_float_columns.proofs.split.SplitBits.new.Goals as goal

pub returns : goal.returns
unfolding split_rest
returns c = ap (λ lows. joined_bits lows (slice_rest c.from-2.result)) c.from.ensures
