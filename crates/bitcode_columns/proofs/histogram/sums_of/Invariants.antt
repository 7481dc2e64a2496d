use Rattle.std.proofs.Common.{◌≡◌, ℕ, ◌<◌, length, get_or}
use Rattle.bitcode_columns.specs.Histogram.{counted}
use Rattle.bitcode_columns.proofs.histogram.sums_of.Given as goal

abbrev pub invariant-loop-value : goal.invariant-loop-value
invariant-loop-value l = record {
  size : length l.sums ≡ 256;
  each : (value : ℕ) → value < l.value → get_or l.sums value 0 ≡ counted l.fn.tables value;
}
