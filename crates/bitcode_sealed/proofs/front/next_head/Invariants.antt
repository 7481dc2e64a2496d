-- No head begins where the search has been.
use Rattle.std.proofs.Common.{◌<◌, ℕ, drop}
use Rattle.bitcode_sealed.specs.Layout.{BeginsAsSealed}
use Rattle.bitcode_sealed.proofs.front.next_head.Given as goal

abbrev pub invariant-loop-at : goal.invariant-loop-at
invariant-loop-at l = (at : ℕ) → 0 < at → at < l.at → BeginsAsSealed (drop at l.input) → ⊥
