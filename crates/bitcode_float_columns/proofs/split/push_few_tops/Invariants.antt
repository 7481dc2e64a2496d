use Rattle.std.proofs.Common.{◌≡◌, ◌+◌, ◌++◌, take, map, vec_len, vec_capacity}
use Rattle.std.specs.Prelude.{to_bits}
use Rattle.std.specs.Float.{binary32}
use Rattle.bitcode_float_columns.specs.FloatColumn.{top_of}
use Rattle.bitcode_float_columns.proofs.split.push_few_tops.Given as goal

abbrev pub invariant-loop-float : goal.invariant-loop-float
invariant-loop-float l = record {
  written : l.out.items ≡ l.initial.out.items ++ map (λ x. top_of (to_bits binary32 x)) (take l.float-index l.floats);
  len : vec_len l.out ≡ vec_len l.initial.out + l.float-index;
  capacity : vec_capacity l.out ≡ vec_capacity l.initial.out;
}
