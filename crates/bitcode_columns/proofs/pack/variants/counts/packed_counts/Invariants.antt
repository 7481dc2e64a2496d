use Rattle.std.proofs.Common.{◌≡◌, ℕ, ◌+◌, ◌<◌, length, take, get_or}
use Rattle.bitcode_columns.specs.Histogram.{count_of}
use Rattle.bitcode_columns.proofs.pack.variants.counts.packed_counts.Given as goal

abbrev pub invariant-loop-entry : goal.invariant-loop-entry
invariant-loop-entry g l = record {
  size : length l.counts ≡ g.row.N;
  each : (value : ℕ) → value < g.row.N → get_or l.counts value 0 ≡ get_or l.initial.counts value 0 + count_of value (take l.entry-index l.behind);
}
