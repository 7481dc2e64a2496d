-- A value of another case ends the loop.
use Rattle.std.proofs.Common.{inr, refl}
use Rattle.bitcode_schema.specs.Views.{option_of, boxed}
use Rattle.bitcode_schema.proofs.CaseLemmas.{option_held, option_none}
use Rattle.bitcode_schema.proofs.LoopLemmas.{more_held, other_here}
use Rattle.bitcode_schema.proofs.write.cases.options.Goals as goal

pub returns-in_default : goal.returns-in_default
returns-in_default c =
    let here = other_here option_of (λ v. v.now) c.args.values.now c.loop-value.value-index c.value-item.result c.loop-value-test.true c.value-item.is
    (option_none c.value-item.result.now c.in_default.not-Option) in
    record { held = rw c.err.ensures tt; refused = rw c.err.ensures (inr (refl, here)) }

pub loop-value-preserved : goal.loop-value-preserved
loop-value-preserved c =
    rw c.in_ok-push-in-Option.ensures.items
    (more_held option_of (λ v. v.now) c.args.values.now c.loop-value.value-index c.value-item.result c.loop-value-test.true c.value-item.is (λ h. boxed h.now)
    c.loop-value.held.items _ c.loop-value.invariant (option_held c.value-item.result.now c.in-Option.some c.in-Option.is))
