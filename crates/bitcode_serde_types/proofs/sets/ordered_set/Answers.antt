-- The set is made of the keys that are collected, which are all of them.
use Rattle.std.proofs.Common.{◌≡◌, sym, ◌∙◌, subst}
use Rattle.std.specs.Ordering.{eq_by_cmp}
use Rattle.std.specs.List.{list_any}
use Rattle.std.specs.Set.{is_member}
use Rattle.std.proofs.lemmas.List.{map-id}
use Rattle.std.proofs.lemmas.Iterator.{items_from_drains}
use Rattle.std.proofs.lemmas.Iterator.Adapters.{YieldsList-from_vec}
use Rattle.std.proofs.lemmas.Map.Keys.{IsDistinct-from_sorted}
use Rattle.bitcode_serde_types.proofs.SetLemmas.{elements_are}
use Rattle.bitcode_serde_types.proofs.sets.ordered_set.Goals as goal

pub returns-clause-entries : goal.returns-clause-entries
returns-clause-entries g c =
    let ran = c.in_ok-from_iter.ensures.ran in
    let keys = c.args.keys.items in
    let eq = eq_by_cmp g.K.Ord.cmp in
    let key = g.K.HasShape.datum in
    let told = g.met.K.KeyAs.told in
    let made = c.in_ok-from_iter.field-0.keys in
    let all : ran.1 ≡ keys = sym (map-id ran.1) ∙ items_from_drains ran.1 ran.3 (YieldsList-from_vec keys ran.2.0 (ran.2.1 ∙ c.args.keys.ok.0)) in
    elements_are eq key told keys made (subst (λ xs. (q : _) → list_any (eq q) made ≡ is_member eq xs q) all ran.4.0) (IsDistinct-from_sorted g.K.Ord.cmp _ ran.4.1)
