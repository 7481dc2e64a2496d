use Rattle.std.proofs.Common.{◌≡◌, ◌+◌, length, All}
use Rattle.std.specs.Float.{binary32}
use Rattle.bitcode_float_columns.specs.FloatColumn.{canonical}
use Rattle.bitcode_float_columns.specs.Split.{split_rest}
use Rattle.bitcode_float_columns.proofs.split.are_canonical.Given as goal

abbrev pub invariant-loop-taken : goal.invariant-loop-taken
invariant-loop-taken l = record {
  back : All (λ b. canonical binary32 b ≡ b) (split_rest l.rest) → All (λ b. canonical binary32 b ≡ b) (split_rest l.initial.rest);
  forth : All (λ b. canonical binary32 b ≡ b) (split_rest l.initial.rest) → All (λ b. canonical binary32 b ≡ b) (split_rest l.rest);
  left : length (split_rest l.rest) + l._taken ≡ l.count;
}
