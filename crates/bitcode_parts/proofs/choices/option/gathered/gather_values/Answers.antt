-- One reference more where the item has a value.
use Rattle.std.proofs.Common.{length, length-set, map, take, sym, ◌+◌, ◌∙◌, ap, ◌++◌, [], ◌∷◌, arith}
use Rattle.bitcode_parts.proofs.OptionLemmas.{one_placed, no_value_more, value_more}
use Rattle.bitcode_parts.proofs.choices.option.gathered.gather_values.Goals.{in-Some, in_default}
use Rattle.bitcode_parts.proofs.choices.option.gathered.gather_values.Goals as goal

pub loop-item-preserved : goal.loop-item-preserved
loop-item-preserved g c =
    let of = g.W.Part.of c.args.which.now in
    elim c.match-part.branch [
      | in-Some w ↦ record {
        values =
            ap (λ n. map (λ value. value.now) (take n c.match-part.values)) w.count-is ∙ ap (λ vs. map (λ value. value.now) (take (c.loop-item.count + 1) vs)) w.values-is
            ∙ one_placed (λ value. value.now) c.loop-item.values c.loop-item.count _ (omega arith)
            ∙ ap (λ before. before ++ w.in-Some.value ∷ []) c.loop-item.invariant.values
            ∙ sym
            (value_more of c.args.items.now c.loop-item.item-index c.item-item.result c.loop-item-test.true c.item-item.is w.in-Some.value (sym c.part.ensures ∙ w.in-Some.is));
        size = omega (arith, w.count-is, c.loop-item.invariant.size);
        long = ap length w.values-is ∙ length-set c.loop-item.values c.loop-item.count _ ∙ c.loop-item.invariant.long;
      }
      | in_default w ↦ record {
        values =
            ap (λ n. map (λ value. value.now) (take n c.match-part.values)) w.count-is ∙ ap (λ vs. map (λ value. value.now) (take c.loop-item.count vs)) w.values-is
            ∙ c.loop-item.invariant.values
            ∙ sym (no_value_more of c.args.items.now c.loop-item.item-index c.item-item.result c.loop-item-test.true c.item-item.is (sym c.part.ensures ∙ w.in_default.is));
        size = omega (arith, w.count-is, c.loop-item.invariant.size);
        long = ap length w.values-is ∙ c.loop-item.invariant.long;
      }
    ]
