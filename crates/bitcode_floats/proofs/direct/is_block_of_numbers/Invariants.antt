use Rattle.std.proofs.Common.{◌*◌, take, All}
use Rattle.std.specs.Float.{NotNan}
use Rattle.bitcode_floats.proofs.direct.is_block_of_numbers.Given as goal

abbrev pub invariant-loop-sixteen : goal.invariant-loop-sixteen
invariant-loop-sixteen l = All NotNan (take (16 * l.sixteen) l.floats)
