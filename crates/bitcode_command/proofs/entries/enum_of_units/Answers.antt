-- Each variant is a unit.
use Rattle.std.proofs.Common.{arith}
use Rattle.bitcode_command.proofs.EntryLemmas.{units_shape}
use Rattle.bitcode_command.proofs.entries.enum_of_units.Goals as goal

pub returns : goal.returns
returns c = units_shape c.loop.units c.args.variants c.loop.invariant.1 (omega arith)
