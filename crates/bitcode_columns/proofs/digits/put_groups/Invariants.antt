use Rattle.std.proofs.Common.{◌≡◌, ◌*◌, map, take}
use Rattle.bitcode_columns.specs.Digits.{digits_in_byte}
use Rattle.bitcode_columns.proofs.PackingLemmas.{entries_so_far}
use Rattle.bitcode_columns.proofs.digits.put_groups.Given as goal

abbrev pub invariant-loop-byte : goal.invariant-loop-byte
invariant-loop-byte g l = record {
  items : map g.T.Digit.digit_of (take (l.byte * digits_in_byte l.fn._base) l.entries) ≡ entries_so_far l.fn._base l.packed (l.byte * digits_in_byte l.fn._base);
}
