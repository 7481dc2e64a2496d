-- The place is that step below the other.
use Rattle.std.proofs.Common.{◌≡◌, ◌+◌, ◌%◌, Some, slice_get, subst}
use Rattle.bitcode_serde.proofs.PlaceLemmas.{step_place}
use Rattle.bitcode_serde.proofs.places.Places.near.Goals as goal

pub returns-then-is_at : goal.returns-then-is_at
returns-then-is_at c =
    let i = (c.args.above + c.args.between) % 18446744073709551616 in
    step_place c.args.self.now.below.items i c.args.above c.args.step c.args.self.now.below_others
    (subst (λ bs. slice_get bs i ≡ Some (record { above = c.args.above; step = c.args.step })) c.deref.ensures.value
    (c.is_at.ensures c.if-is_at.true))
