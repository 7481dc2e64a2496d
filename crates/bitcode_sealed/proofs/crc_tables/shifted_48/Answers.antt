-- Written by scripts/tables/checksums.
-- The table has what the byte becomes.
use Rattle.std.proofs.Common.{arith}
use Rattle.bitcode_sealed.proofs.CrcTableLemmas.{TABLE_5_at}
use Rattle.bitcode_sealed.proofs.crc_tables.shifted_48.Goals as goal

pub returns : goal.returns
returns c = TABLE_5_at c.args.byte (omega arith)
