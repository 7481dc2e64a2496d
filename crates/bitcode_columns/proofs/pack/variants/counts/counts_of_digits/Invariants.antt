use Rattle.std.proofs.Common.{◌≡◌, ℕ, ◌<◌, get_or}
use Rattle.bitcode_columns.specs.DigitCounts.{digits_of}
use Rattle.bitcode_columns.specs.Histogram.{count_of}
use Rattle.bitcode_columns.proofs.DigitCountLemmas.{of_below}
use Rattle.bitcode_columns.proofs.pack.variants.counts.counts_of_digits.Given as goal

abbrev pub invariant-loop-byte : goal.invariant-loop-byte
invariant-loop-byte g l = (value : ℕ) → value < g.row.N → get_or l.counts value 0 ≡ of_below (λ byte. count_of value (digits_of l.base byte)) l.byte l.fn.packed
