use Rattle.std.proofs.Common.{map, ap, ◌∙◌}
use Rattle.bitcode_memory.specs.Ints.{bool_digit}
use Rattle.bitcode_columns.proofs.digit.BoolDigit.put_bits.Goals as goal

pub returns : goal.returns
returns c = ap (map bool_digit) c.copy_from_slice.ensures.after ∙ c.bits_of-bits.ensures
