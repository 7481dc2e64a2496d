use Rattle.std.proofs.Common.{All, rules, sym, subst}
use Rattle.std.proofs.lemmas.List.Elements.{All-cons}
use Rattle.bitcode_shapes.specs.Maps.{IsOrderedMap}
use Rattle.bitcode_shapes.specs.Pairs.{IsPairValue}
use Rattle.bitcode_shapes.proofs.maps.BTreeMapShaped.told.Goals as goal

-- src/maps.rt:35:9
pub loop-key-preserved : goal.loop-key-preserved
loop-key-preserved g c = λ h.
    let P : g.row.K.Denot × g.row.V.Denot → Type 0 = IsPairValue g.K.Shaped.data.is_value g.V.Shaped.data.is_value in
    c.loop-key.invariant
    (subst (All P) (sym c.in-Some.ensures.steps) (All-cons P (c.in-Some.key.now, c.in-Some.value.now) c.next.new.self (c.told.ensures, c.told-in-loop-key.ensures) h))

-- the order of the keys is that of their data
pub returns : goal.returns
returns g c =
    let whole : IsOrderedMap {K = g.row.K.Denot} {X = g.row.V.Denot} g.K.Shaped.data.is_value g.V.Shaped.data.is_value g.K.Ord.cmp c.args.self.now.entries = search rules in
    subst (λ order. IsOrderedMap {K = g.row.K.Denot} {X = g.row.V.Denot} g.K.Shaped.data.is_value g.V.Shaped.data.is_value order c.args.self.now.entries) g.met.K.Key.ordered whole
