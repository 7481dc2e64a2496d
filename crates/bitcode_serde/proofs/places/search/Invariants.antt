use Rattle.std.proofs.Common.{◌≡◌, ◌≢◌, ℕ, true, Some, take, slice_get}
use Rattle.bitcode_serde.specs.Links.{is_among}
use Rattle.bitcode_serde.specs.declared.places.Below.{Below}
use Rattle.bitcode_serde.proofs.places.search.Given as goal

-- the children so far are other steps below
abbrev pub invariant-loop-i : goal.invariant-loop-i
invariant-loop-i l = (i : ℕ) → is_among i (take l.i-index l.children) ≡ true → (b : Below) → slice_get l.below i ≡ Some b → b.step ≢ l.step
