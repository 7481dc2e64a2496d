use Rattle.std.proofs.Common.{◌≡◌, ◌+◌, ◌-◌, ◌≤◌, ◌++◌, length, map, vec_len, vec_capacity}
use Rattle.std.specs.Int.{div_ceil}
use Rattle.bitcode_columns.specs.Digits.{digits_in_byte}
use Rattle.bitcode_columns.proofs.PackingLemmas.{packed_so_far}
use Rattle.bitcode_columns.proofs.digits.push_digits.Given as goal

abbrev pub invariant-loop-byte : goal.invariant-loop-byte
invariant-loop-byte g l = record {
  items : l.out.items ≡ l.initial.out.items ++ packed_so_far l.base (map g.T.Digit.digit_of l.entries) l.byte;
  room : vec_len l.out + (div_ceil (length l.entries) (digits_in_byte l.base) - l.byte) ≤ vec_capacity l.out;
}
