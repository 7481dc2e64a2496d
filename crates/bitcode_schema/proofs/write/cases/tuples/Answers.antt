-- A value of another case ends the loop.
use Rattle.std.proofs.Common.{Some, inr, refl, sym, ap, ◌∙◌}
use Rattle.bitcode_schema.specs.Views.{fields_of}
use Rattle.bitcode_schema.proofs.CaseLemmas.{fields_held, fields_none}
use Rattle.bitcode_schema.proofs.LoopLemmas.{more_held, other_here}
use Rattle.bitcode_schema.proofs.write.cases.tuples.Goals as goal

pub returns-in_default : goal.returns-in_default
returns-in_default c =
    let here = other_here fields_of (λ v. v.now) c.args.values.now c.loop-value.value-index c.value-item.result c.loop-value-test.true c.value-item.is
    (fields_none c.value-item.result.now c.in_default.not-Tuple) in
    record { held = rw c.err.ensures tt; refused = rw c.err.ensures (inr (refl, here)) }

pub loop-value-preserved : goal.loop-value-preserved
loop-value-preserved c =
    rw c.in_ok-push-in-Tuple.ensures.items
    (more_held fields_of (λ v. v.now) c.args.values.now c.loop-value.value-index c.value-item.result c.loop-value-test.true c.value-item.is (λ h. h.now)
    c.loop-value.held.items c.as_slice.result c.loop-value.invariant (fields_held c.value-item.result.now c.in-Tuple.fields c.in-Tuple.is ∙ ap Some (sym c.as_slice.ensures.value)))
