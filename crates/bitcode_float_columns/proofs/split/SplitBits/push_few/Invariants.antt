use Rattle.std.proofs.Common.{◌≡◌, ◌+◌, ◌++◌, map, take, drop, vec_len, vec_capacity}
use Rattle.std.specs.Prelude.{from_bits}
use Rattle.std.specs.Float.{binary32}
use Rattle.bitcode_float_columns.specs.Split.{split_rest}
use Rattle.bitcode_float_columns.proofs.split.SplitBits.push_few.Given as goal

abbrev pub invariant-loop-taken : goal.invariant-loop-taken
invariant-loop-taken l = record {
  made : l.floats.items ≡ l.initial.floats.items ++ map (λ b. from_bits binary32 b) (take (l._taken) (split_rest l.initial.rest));
  left : split_rest l.rest ≡ drop (l._taken) (split_rest l.initial.rest);
  len : vec_len l.floats ≡ vec_len l.initial.floats + l._taken;
  capacity : vec_capacity l.floats ≡ vec_capacity l.initial.floats;
}
