use Rattle.std.proofs.Common.{◌≡◌, map, drop}
use Rattle.bitcode_columns.specs.Digits.{radix, number_with_digits}
use Rattle.bitcode_columns.proofs.digits.number_with_digits.Given as goal

abbrev pub invariant-loop-place : goal.invariant-loop-place
invariant-loop-place g l = l.number ≡ number_with_digits (radix l.fn.base) (drop l.place (map g.T.Digit.digit_of l.digits))
