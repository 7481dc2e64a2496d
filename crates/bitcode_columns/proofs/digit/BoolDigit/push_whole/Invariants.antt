use Rattle.std.proofs.Common.{◌≡◌, ◌+◌, ◌-◌, ◌≤◌, ◌++◌, length, map, take, vec_len, vec_capacity}
use Rattle.bitcode_memory.specs.Ints.{bool_digit}
use Rattle.bitcode_columns.proofs.digit.BoolDigit.push_whole.Given as goal

abbrev pub invariant-loop-entry : goal.invariant-loop-entry
invariant-loop-entry l = record {
  items : l.out.items ≡ l.initial.out.items ++ map bool_digit (take l.entry-index l.entries);
  room : vec_len l.out + (length l.entries - l.entry-index) ≤ vec_capacity l.out;
}
