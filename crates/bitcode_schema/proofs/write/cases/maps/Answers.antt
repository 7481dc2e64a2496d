-- A value of another case ends the loop.
use Rattle.std.proofs.Common.{Some, inr, refl, sym, ap, ◌∙◌}
use Rattle.bitcode_schema.specs.Views.{pairs_of}
use Rattle.bitcode_schema.proofs.CaseLemmas.{pairs_held, pairs_none}
use Rattle.bitcode_schema.proofs.LoopLemmas.{more_held, other_here}
use Rattle.bitcode_schema.proofs.write.cases.maps.Goals as goal

pub returns-in_default : goal.returns-in_default
returns-in_default c =
    let here = other_here pairs_of (λ v. v.now) c.args.values.now c.loop-value.value-index c.value-item.result c.loop-value-test.true c.value-item.is
    (pairs_none c.value-item.result.now c.in_default.not-Map) in
    record { held = rw c.err.ensures tt; refused = rw c.err.ensures (inr (refl, here)) }

pub loop-value-preserved : goal.loop-value-preserved
loop-value-preserved c =
    rw c.in_ok-push-in-Map.ensures.items
    (more_held pairs_of (λ v. v.now) c.args.values.now c.loop-value.value-index c.value-item.result c.loop-value-test.true c.value-item.is (λ h. h.now)
    c.loop-value.held.items c.as_slice.result c.loop-value.invariant (pairs_held c.value-item.result.now c.in-Map.pairs c.in-Map.is ∙ ap Some (sym c.as_slice.ensures.value)))
