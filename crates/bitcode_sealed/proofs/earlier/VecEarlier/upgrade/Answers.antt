-- Each turn makes one element.
use Rattle.std.proofs.Common.{sym, ◌∙◌, subst}
use Rattle.std.proofs.lemmas.List.{nil_from_length}
use Rattle.std.specs.Vec.Iter.{into_iter_items}
use Rattle.bitcode_sealed.proofs.UpgradeLemmas.{MadeFront, front_more, front_all}
use Rattle.bitcode_sealed.proofs.earlier.VecEarlier.upgrade.Goals as goal

pub loop-each-preserved : goal.loop-each-preserved
loop-each-preserved g c =
    subst (MadeFront g.T.Earlier.is_upgrade c.args.before.items (into_iter_items c.next.new.self)) (sym c.in_ok-push.ensures.items)
    (front_more g.T.Earlier.is_upgrade c.args.before.items (into_iter_items c.loop-each.each-iterator) (into_iter_items c.next.new.self) c.loop-each.items.items c.in-Some.each c.in_ok-upgrade.field-0
    c.in-Some.ensures.steps.0 c.loop-each.invariant c.in_ok-upgrade.ensures.made)

pub returns-clause-made : goal.returns-clause-made
returns-clause-made g c =
    front_all g.T.Earlier.is_upgrade c.args.before.items (into_iter_items c.loop-each.each-iterator) c.loop-each.items.items
    (nil_from_length (into_iter_items c.loop-each.each-iterator) (sym c.loop-each.each-iterator.rest.ok.0 ∙ c.in-None.ensures.steps.0)) c.loop-each.invariant
