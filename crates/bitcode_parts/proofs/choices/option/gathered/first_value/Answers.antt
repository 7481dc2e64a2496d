-- No item up to this one has a value.
use Rattle.std.proofs.Common.{sym, ◌∙◌}
use Rattle.bitcode_parts.proofs.OptionLemmas.{no_value_more, value_there}
use Rattle.bitcode_parts.proofs.choices.option.gathered.first_value.Goals as goal

pub loop-item-preserved : goal.loop-item-preserved
loop-item-preserved g c =
    no_value_more (g.W.Part.of c.args.which.now) c.args.items.now c.loop-item.item-index c.item-item.result c.loop-item-test.true c.item-item.is
    (sym c.part.ensures ∙ c.in_default.is) ∙ c.loop-item.invariant

pub returns-in-Some-clause-some : goal.returns-in-Some-clause-some
returns-in-Some-clause-some g c =
    value_there (g.W.Part.of c.args.which.now) c.args.items.now c.loop-item.item-index c.item-item.result c.in-Some.value c.loop-item-test.true c.item-item.is
    (sym c.part.ensures ∙ c.in-Some.is)
