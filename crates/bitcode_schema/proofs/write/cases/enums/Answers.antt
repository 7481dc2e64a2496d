-- A value of another case ends the loop.
use Rattle.std.proofs.Common.{Some, inr, refl, sym, ap, ◌∙◌}
use Rattle.bitcode_schema.specs.Views.{enum_of}
use Rattle.bitcode_schema.proofs.CaseLemmas.{enum_held, enum_none}
use Rattle.bitcode_schema.proofs.LoopLemmas.{more_held, other_here}
use Rattle.bitcode_schema.proofs.write.cases.enums.Goals as goal

pub returns-in_default : goal.returns-in_default
returns-in_default c =
    let here = other_here enum_of (λ v. v.now) c.args.values.now c.loop-value.value-index c.value-item.result c.loop-value-test.true c.value-item.is
    (enum_none c.value-item.result.now c.in_default.not-Enum) in
    record { held = rw c.err.ensures tt; refused = rw c.err.ensures (inr (refl, here)) }

pub loop-value-preserved : goal.loop-value-preserved
loop-value-preserved c =
    rw c.in_ok-push-in-Enum.ensures.items
    (more_held enum_of (λ v. v.now) c.args.values.now c.loop-value.value-index c.value-item.result c.loop-value-test.true c.value-item.is (λ h. (h.0, h.1.now))
    c.loop-value.held.items (c.in-Enum.variant, c.deref.result) c.loop-value.invariant (enum_held c.value-item.result.now c.in-Enum.variant c.in-Enum.payload c.in-Enum.is ∙ ap (λ p. Some (c.in-Enum.variant, p)) (sym c.deref.ensures)))
