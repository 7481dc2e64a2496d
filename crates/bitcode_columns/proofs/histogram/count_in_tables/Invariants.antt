use Rattle.std.proofs.Common.{◌≡◌, ℕ, ◌*◌, ◌<◌, take}
use Rattle.bitcode_columns.specs.Histogram.{count_of, counted}
use Rattle.bitcode_columns.proofs.histogram.count_in_tables.Given as goal

abbrev pub invariant-loop-block : goal.invariant-loop-block
invariant-loop-block l = (value : ℕ) → value < 256 → counted l.tables value ≡ count_of value (take (l.block-index * 16) l.fn.bytes)
