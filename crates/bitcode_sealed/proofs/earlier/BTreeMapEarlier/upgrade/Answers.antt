-- Each turn inserts one pair.
use Rattle.std.proofs.Common.{sym, subst, ap}
use Rattle.std.specs.Map.{lookup, keys_of}
use Rattle.std.specs.Ordering.{eq_by_cmp}
use Rattle.std.proofs.lemmas.Cmp.{eq_by_cmp_equiv}
use Rattle.std.proofs.lemmas.Map.Keys.{IsDistinct-from_sorted}
use Rattle.bitcode_sealed.proofs.UpgradeLemmas.{InsertedFront, inserted_none, inserted_more, inserted_all}
use Rattle.bitcode_sealed.proofs.earlier.BTreeMapEarlier.upgrade.Goals as goal

pub loop-key-init : goal.loop-key-init
loop-key-init g c =
    let eq = eq_by_cmp g.K.Ord.cmp in
    let whole = c.args.before.entries in
    subst (λ rest. InsertedFront eq g.T.Earlier.is_upgrade whole rest c.new-map.result.entries) (sym c.into_iter-key-iterator.ensures.into_iter_gives.0)
    (inserted_none eq g.T.Earlier.is_upgrade whole c.new-map.result.entries (λ key. ap (lookup (eq key)) c.new-map.ensures.empty))

pub loop-key-preserved-in_ok-_old : goal.loop-key-preserved-in_ok-_old
loop-key-preserved-in_ok-_old g c =
    inserted_more (eq_by_cmp g.K.Ord.cmp) g.T.Earlier.is_upgrade c.args.before.entries c.loop-key.key-iterator c.next.new.self c.loop-key.map.entries c.insert.new.self.entries
    c.in-Some.key c.in-Some.value c.in_ok-upgrade.field-0 c.in-Some.ensures.steps c.in_ok-_old.ensures.updates.0 c.in_ok-upgrade.ensures.made c.loop-key.invariant

pub loop-key-preserved : goal.loop-key-preserved
loop-key-preserved g c =
    inserted_more (eq_by_cmp g.K.Ord.cmp) g.T.Earlier.is_upgrade c.args.before.entries c.loop-key.key-iterator c.next.new.self c.loop-key.map.entries c.insert.new.self.entries
    c.in-Some.key c.in-Some.value c.in_ok-upgrade.field-0 c.in-Some.ensures.steps c.in_ok-_old.ensures.updates.0 c.in_ok-upgrade.ensures.made c.loop-key.invariant

pub returns-clause-made : goal.returns-clause-made
returns-clause-made g c =
    inserted_all (eq_by_cmp g.K.Ord.cmp) g.T.Earlier.is_upgrade c.args.before.entries c.loop-key.key-iterator c.loop-key.map.entries (eq_by_cmp_equiv g.met.K.Ord.total)
    (IsDistinct-from_sorted g.K.Ord.cmp (keys_of c.args.before.entries) c.into_iter-key-iterator.ensures.into_iter_gives.5) c.in-None.ensures.steps.0 c.loop-key.invariant
