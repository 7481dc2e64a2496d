use Rattle.std.proofs.Common.{◌≡◌, ◌^◌}
use Rattle.bitcode_columns.specs.Digits.{radix}
use Rattle.bitcode_columns.proofs.strict.limit_of.Given as goal

abbrev pub invariant-loop-digit : goal.invariant-loop-digit
invariant-loop-digit l = l.limit ≡ radix l.fn.base ^ l._digit
