-- The map is made of the pairs that are collected, which are all of them.
use Rattle.std.proofs.Common.{◌≡◌, [], sym, ◌∙◌, subst}
use Rattle.std.specs.Ordering.{eq_by_cmp}
use Rattle.std.proofs.lemmas.List.{map-id}
use Rattle.std.proofs.lemmas.Iterator.{items_from_drains}
use Rattle.std.proofs.lemmas.Iterator.Adapters.{YieldsList-from_vec}
use Rattle.bitcode_parts.proofs.MapLemmas.{GivesWhole, map_of_elements}
use Rattle.bitcode_parts.proofs.maps.BTreeMapFromElements.from_elements.Goals as goal

pub returns-clause-made : goal.returns-clause-made
returns-clause-made g c =
    let ran = c.in_ok-from_iter.ensures.ran in
    let pairs = c.args.elements.items in
    let all : ran.1 ≡ pairs = sym (map-id ran.1) ∙ items_from_drains ran.1 ran.3 (YieldsList-from_vec pairs ran.2.0 (ran.2.1 ∙ c.args.elements.ok.0)) in
    map_of_elements (eq_by_cmp g.K.Shaped.data.cmp) (λ (m : _). m.entries) g.K.Shaped.data.is_value g.V.Shaped.data.is_value g.K.Shaped.data.makes g.V.Shaped.data.makes c.in_ok-from_iter.field-0 pairs
    (rw c.as_slice.ensures.value at c.told_each.ensures)
    (subst (λ cmp. GivesWhole (eq_by_cmp cmp) c.in_ok-from_iter.field-0.entries [] pairs) g.met.K.Key.ordered
    (subst (λ xs. GivesWhole (eq_by_cmp g.K.Ord.cmp) c.in_ok-from_iter.field-0.entries [] xs) all ran.4.0))
