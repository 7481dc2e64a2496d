-- A variant that is none of the enum's ends the loop.
use Rattle.std.proofs.Common.{◌<◌, ◌++◌, ◌∷◌, [], map, inr, refl, sym, ap, ◌∙◌, arith}
use Rattle.std.proofs.lemmas.List.{map-append}
use Rattle.bitcode_coder.proofs.EachLemmas.{parts_more}
use Rattle.bitcode_schema.specs.Views.{variant_in}
use Rattle.bitcode_schema.proofs.LoopLemmas.{more_all, not_all}
use Rattle.bitcode_schema.proofs.write.gather.enum_variants.Goals as goal

pub returns-then-variant-count-clause-refused : goal.returns-then-variant-count-clause-refused
returns-then-variant-count-clause-refused c =
    let away = not_all (λ e. variant_in e < c.args.count) (λ h. (h.0, h.1.now)) c.args.enums.now c.loop-entry.entry-index c.entry-item.result c.loop-entry-test.true
    c.entry-item.is (λ below. omega (arith, below, c.if-variant-count.true)) in
    rw c.err.ensures (inr (refl, away))

pub loop-entry-preserved : goal.loop-entry-preserved
loop-entry-preserved c = record {
  variants = c.in_ok-push.ensures.items ∙ ap (λ vs. vs ++ c.entry-item.result.0 ∷ []) c.loop-entry.invariant.variants ∙ sym (map-append variant_in _ _)
      ∙ sym (ap (map variant_in) (parts_more (λ h. (h.0, h.1.now)) c.args.enums.now c.loop-entry.entry-index c.entry-item.result c.loop-entry-test.true c.entry-item.is));
  below = more_all (λ e. variant_in e < c.args.count) (λ h. (h.0, h.1.now)) c.args.enums.now c.loop-entry.entry-index c.entry-item.result c.loop-entry-test.true
      c.entry-item.is c.loop-entry.invariant.below c.if-variant-count.false;
}
