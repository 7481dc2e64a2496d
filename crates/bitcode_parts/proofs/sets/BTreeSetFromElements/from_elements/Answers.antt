-- The set is made of the elements that are collected, which are all of them.
use Rattle.std.proofs.Common.{◌≡◌, sym, ◌∙◌, subst}
use Rattle.std.specs.Ordering.{eq_by_cmp}
use Rattle.std.proofs.lemmas.List.{map-id}
use Rattle.std.proofs.lemmas.Iterator.{items_from_drains}
use Rattle.std.proofs.lemmas.Iterator.Adapters.{YieldsList-from_vec}
use Rattle.bitcode_shapes.specs.Sets.{SameMembers}
use Rattle.bitcode_parts.proofs.sets.BTreeSetFromElements.from_elements.Goals as goal

pub returns-clause-made : goal.returns-clause-made
returns-clause-made g c = λ d making.
    let ran = c.in_ok-from_iter.ensures.ran in
    let values = c.args.elements.items in
    let all : ran.1 ≡ values = sym (map-id ran.1) ∙ items_from_drains ran.1 ran.3 (YieldsList-from_vec values ran.2.0 (ran.2.1 ∙ c.args.elements.ok.0)) in
    record {
      values = values;
      are = rw c.as_slice.ensures.value at c.told_each.ensures;
      making = making;
      members =
          subst (λ cmp. SameMembers (eq_by_cmp cmp) c.in_ok-from_iter.field-0.keys values) g.met.T.Key.ordered
          (subst (λ xs. SameMembers (eq_by_cmp g.T.Ord.cmp) c.in_ok-from_iter.field-0.keys xs) all ran.4.0);
    }
