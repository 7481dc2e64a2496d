-- Written by scripts/tables/checksums.
-- The table has what the byte becomes.
use Rattle.std.proofs.Common.{arith}
use Rattle.bitcode_sealed.proofs.CrcTableLemmas.{TABLE_3_at}
use Rattle.bitcode_sealed.proofs.crc_tables.shifted_32.Goals as goal

pub returns : goal.returns
returns c = TABLE_3_at c.args.byte (omega arith)
