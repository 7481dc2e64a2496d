use Rattle.std.proofs.Common.{length, arith}
use Rattle.bitcode_columns.proofs.PackingLemmas.{group_fits}
use Rattle.bitcode_columns.proofs.digits.group.Goals as goal

pub overflow_mul-start : goal.overflow_mul-start
overflow_mul-start g c = omega (arith, group_fits (length c.args.entries.now) c.args.size c.args.place c.requires)

pub split_at-requires : goal.split_at-requires
split_at-requires g c = omega (arith, group_fits (length c.args.entries.now) c.args.size c.args.place c.requires)

pub split_at-requires-2 : goal.split_at-requires-2
split_at-requires-2 g c = omega (arith, group_fits (length c.args.entries.now) c.args.size c.args.place c.requires, c.split_at.ensures.back_len)
