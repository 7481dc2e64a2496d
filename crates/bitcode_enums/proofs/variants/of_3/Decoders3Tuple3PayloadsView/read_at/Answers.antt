-- Written by scripts/tables/variants.
-- What is read is refused as the payload of the variant of the number.
use Rattle.std.proofs.Common.{◌≡◌, ◌-◌, ap, sym, ◌∙◌}
use Rattle.bitcode_enums.proofs.variants.of_3.Decoders3Tuple3PayloadsView.read_at.Goals as goal

pub returns-in-0-clause-refused : goal.returns-in-0-clause-refused
returns-in-0-clause-refused g c =
    let at : c.args.number - g.First.VariantNumber.value ≡ 0 = ap (λ f. c.args.number - f) (sym c.value.ensures) ∙ c.in-0.is in
    rw at c.read_and_count.ensures.refused

pub returns-in-1-clause-refused : goal.returns-in-1-clause-refused
returns-in-1-clause-refused g c =
    let at : c.args.number - g.First.VariantNumber.value ≡ 1 = ap (λ f. c.args.number - f) (sym c.value.ensures) ∙ c.in-1.is in
    rw at c.read_and_count-in-1.ensures.refused

pub returns-in-2-clause-refused : goal.returns-in-2-clause-refused
returns-in-2-clause-refused g c =
    let at : c.args.number - g.First.VariantNumber.value ≡ 2 = ap (λ f. c.args.number - f) (sym c.value.ensures) ∙ c.in-2.is in
    rw at c.read_and_count-in-2.ensures.refused
