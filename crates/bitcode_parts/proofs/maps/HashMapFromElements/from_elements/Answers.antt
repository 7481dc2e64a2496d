-- Each turn inserts one pair.
use Rattle.std.proofs.Common.{[], sym, ◌∙◌, subst}
use Rattle.std.proofs.lemmas.List.{nil_from_length}
use Rattle.std.specs.Vec.Iter.{into_iter_items}
use Rattle.bitcode_parts.proofs.MapLemmas.{GivesWhole, pair_inserted, map_of_elements}
use Rattle.bitcode_parts.proofs.maps.HashMapFromElements.from_elements.Goals as goal

pub loop-key-preserved-in_ok-_old : goal.loop-key-preserved-in_ok-_old
loop-key-preserved-in_ok-_old g c =
    pair_inserted g.K.PartialEq.eq c.in-Some.key c.in-Some.value c.loop-key.map.entries c.insert.new.self.entries (into_iter_items c.next.new.self) c.args.elements.items
    c.in_ok-_old.ensures.updates.0
    (subst (λ rest. GivesWhole g.K.PartialEq.eq c.loop-key.map.entries rest c.args.elements.items) c.in-Some.ensures.steps.0 c.loop-key.invariant)

pub loop-key-preserved : goal.loop-key-preserved
loop-key-preserved g c =
    pair_inserted g.K.PartialEq.eq c.in-Some.key c.in-Some.value c.loop-key.map.entries c.insert.new.self.entries (into_iter_items c.next.new.self) c.args.elements.items
    c.in_ok-_old.ensures.updates.0
    (subst (λ rest. GivesWhole g.K.PartialEq.eq c.loop-key.map.entries rest c.args.elements.items) c.in-Some.ensures.steps.0 c.loop-key.invariant)

pub returns-clause-made : goal.returns-clause-made
returns-clause-made g c =
    map_of_elements g.K.Shaped.data.eq (λ (m : _). m.entries) g.K.Shaped.data.is_value g.V.Shaped.data.is_value g.K.Shaped.data.makes g.V.Shaped.data.makes c.loop-key.map c.args.elements.items
    (rw c.as_slice.ensures.value at c.told_each.ensures)
    (subst (λ eq. GivesWhole eq c.loop-key.map.entries [] c.args.elements.items) g.met.K.Key.equal
    (subst (λ rest. GivesWhole g.K.PartialEq.eq c.loop-key.map.entries rest c.args.elements.items) (nil_from_length (into_iter_items c.loop-key.key-iterator) (sym c.loop-key.key-iterator.rest.ok.0 ∙ c.in-None.ensures.steps.0)) c.loop-key.invariant))
