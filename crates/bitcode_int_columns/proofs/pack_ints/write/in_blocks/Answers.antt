use Rattle.std.proofs.Common.{◌/◌}
use Rattle.std.proofs.Math.Nat.{mul-mod_left}
use Rattle.bitcode_int_columns.proofs.pack_ints.write.in_blocks.Goals as goal

pub returns-clause-whole : goal.returns-clause-whole
returns-clause-whole c = mul-mod_left (c.args.count / c.args.in_block) c.args.in_block
