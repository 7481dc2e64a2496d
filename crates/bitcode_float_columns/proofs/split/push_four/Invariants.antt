use Rattle.std.proofs.Common.{◌≡◌, ◌+◌, ◌++◌, take, vec_len, vec_capacity}
use Rattle.bitcode_float_columns.proofs.split.push_four.Given as goal

abbrev pub invariant-loop-float : goal.invariant-loop-float
invariant-loop-float l = record {
  written : l.out.items ≡ l.initial.out.items ++ take l.float-index l.float-items;
  len : vec_len l.out ≡ vec_len l.initial.out + l.float-index;
  capacity : vec_capacity l.out ≡ vec_capacity l.initial.out;
}
