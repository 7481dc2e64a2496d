use Rattle.std.proofs.Common.{◌≡◌, ◌+◌, ◌*◌, ◌++◌, take, map, vec_len, vec_capacity}
use Rattle.std.specs.Prelude.{to_bits}
use Rattle.std.specs.Float.{binary32}
use Rattle.bitcode_float_columns.specs.FloatColumn.{top_of}
use Rattle.bitcode_float_columns.proofs.split.push_tops.Given as goal

abbrev pub invariant-loop-block : goal.invariant-loop-block
invariant-loop-block l = record {
  written : l.out.items ≡ l.initial.out.items ++ map (λ x. top_of (to_bits binary32 x)) (take (4 * l.block) l.floats);
  len : vec_len l.out ≡ vec_len l.initial.out + 4 * l.block;
  capacity : vec_capacity l.out ≡ vec_capacity l.initial.out;
}
