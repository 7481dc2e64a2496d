use Rattle.std.proofs.Common.{◌≡◌, ℕ, ◌+◌, ◌<◌, take}
use Rattle.bitcode_columns.specs.Histogram.{count_of, counted}
use Rattle.bitcode_columns.proofs.histogram.count_each.Given as goal

abbrev pub invariant-loop-place : goal.invariant-loop-place
invariant-loop-place l = (value : ℕ) → value < 256 → counted l.tables value ≡ counted l.initial.tables value + count_of value (take l.place l.bytes)
