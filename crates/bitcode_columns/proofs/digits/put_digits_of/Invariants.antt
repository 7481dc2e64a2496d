use Rattle.std.proofs.Common.{◌≡◌, ◌/◌, ◌^◌, map, take}
use Rattle.std.specs.List.{range_with_len}
use Rattle.bitcode_columns.specs.Digits.{digit}
use Rattle.bitcode_columns.proofs.digits.put_digits_of.Given as goal

abbrev pub invariant-loop-place : goal.invariant-loop-place
invariant-loop-place g l = record {
  rest : l.rest ≡ l.fn.byte / g.row.RADIX ^ l.place;
  items : map g.T.Digit.digit_of (take l.place l.entries) ≡ map (digit g.row.RADIX l.fn.byte) (range_with_len 0 l.place);
}
