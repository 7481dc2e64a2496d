use Rattle.std.proofs.Common.{◌≡◌, ◌+◌, ◌-◌, ◌≤◌, ◌++◌, length, map, take, vec_len, vec_capacity}
use Rattle.bitcode_memory.specs.Ints.{residue}
use Rattle.bitcode_columns.proofs.byte.with_signed.Given as goal

abbrev pub invariant-loop-number : goal.invariant-loop-number
invariant-loop-number l = record {
  items : l.out.items ≡ l.initial.out.items ++ map (residue 1) (take l.number-index l.numbers);
  room : vec_len l.out + (length l.numbers - l.number-index) ≤ vec_capacity l.out;
}
