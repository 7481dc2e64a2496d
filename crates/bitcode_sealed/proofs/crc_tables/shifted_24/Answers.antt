-- Written by scripts/tables/checksums.
-- The table has what the byte becomes.
use Rattle.std.proofs.Common.{arith}
use Rattle.bitcode_sealed.proofs.CrcTableLemmas.{TABLE_2_at}
use Rattle.bitcode_sealed.proofs.crc_tables.shifted_24.Goals as goal

pub returns : goal.returns
returns c = TABLE_2_at c.args.byte (omega arith)
