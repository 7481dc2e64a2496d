use Rattle.std.proofs.Common.{arith}
use Rattle.bitcode_columns.proofs.BitLemmas.{BITS_at}
use Rattle.bitcode_columns.proofs.digit.bits_of.Goals as goal

pub returns : goal.returns
returns c = BITS_at c.args.byte (omega arith)
