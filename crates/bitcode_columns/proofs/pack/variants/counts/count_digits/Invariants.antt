use Rattle.std.proofs.Common.{◌≡◌, ℕ, ◌+◌, ◌*◌, ◌/◌, ◌^◌, ◌<◌, length, take, get_or}
use Rattle.bitcode_columns.specs.Digits.{radix}
use Rattle.bitcode_columns.specs.DigitCounts.{digits_of}
use Rattle.bitcode_columns.specs.Histogram.{count_of}
use Rattle.bitcode_columns.proofs.pack.variants.counts.count_digits.Given as goal

abbrev pub invariant-loop-place : goal.invariant-loop-place
invariant-loop-place g l = record {
  size : length l.counts ≡ g.row.N;
  rest : l.rest ≡ l.fn.byte / radix l.fn.base ^ l._place;
  each : (value : ℕ) → value < g.row.N → get_or l.counts value 0 ≡ get_or l.initial.counts value 0 + l.times * count_of value (take l._place (digits_of l.fn.base l.fn.byte));
}
