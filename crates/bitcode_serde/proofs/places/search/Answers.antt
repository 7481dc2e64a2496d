-- Child by child.
use Rattle.std.proofs.Common.{◌≡◌, Some, slice_get, subst, inl, inr}
use Rattle.bitcode_serde.proofs.LinkLemmas.{among_at, among_take}
use Rattle.bitcode_serde.proofs.places.search.Goals as goal

pub returns-then-is_below-clause-found : goal.returns-then-is_below-clause-found
returns-then-is_below-clause-found c = (among_at c.args.children.now c.loop-i.i-index 0 c.loop-i-test.true, c.if-is_below.ensures)

pub loop-i-preserved : goal.loop-i-preserved
loop-i-preserved c = λ i among b got.
    elim (among_take c.args.children.now c.loop-i.i-index 0 i c.loop-i-test.true among) [
      | inl e ↦ c.loop-i.invariant i e b got
      | inr e ↦ c.if-is_below.ensures b (subst (λ j. slice_get c.args.below.now j ≡ Some b) e got)
    ]
