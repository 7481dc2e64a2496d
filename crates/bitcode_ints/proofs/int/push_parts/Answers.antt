-- One integer more for each item.
use Rattle.std.proofs.Common.{subst, sym, ◌+◌, ◌∙◌, ◌++◌, [], ◌∷◌, ap, map, take, arith}
use Rattle.std.proofs.lemmas.List.{take_more, take_all, map-append}
use Rattle.bitcode_memory.specs.Fast.{fast_items}
use Rattle.bitcode_shapes.specs.Datum.{number}
use Rattle.bitcode_ints.specs.Int.{PushesInts}
use Rattle.bitcode_ints.proofs.PushedIntLemmas.{pushes_none, pushes_one_more}
use Rattle.bitcode_ints.proofs.int.push_parts.Goals as goal

pub loop-item-init : goal.loop-item-init
loop-item-init g c = record {
  pushed = pushes_none g.P.Shaped.data.lists g.I.ColumnInt.number (fast_items c.args.ints);
  room = omega arith;
}

pub loop-item-preserved : goal.loop-item-preserved
loop-item-preserved g c =
    let i = c.loop-item.item-index in
    let of = g.W.Part.of c.args.which.now in
    let item = c.item-item.result in
    record {
      pushed =
          pushes_one_more g.P.Shaped.data.lists g.I.ColumnInt.number (map of (take i c.args.items.now)) (map of (take (i + 1) c.args.items.now)) (of item) c.to_int.result
          (fast_items c.args.ints) (fast_items c.loop-item.ints) (fast_items c.push_unchecked.new.self) c.loop-item.invariant.pushed
          (subst (λ t. g.P.Shaped.data.lists t (number (g.I.ColumnInt.number c.to_int.result))) c.part.ensures c.to_int.ensures) c.push_unchecked.ensures.items
          (ap (map of) (take_more c.args.items.now i item c.loop-item-test.true ∙ ap (λ t. take i c.args.items.now ++ t ∷ []) (sym c.item-item.is))
          ∙ map-append of (take i c.args.items.now) (item ∷ []));
      room = omega (arith, c.loop-item.invariant.room, c.push_unchecked.ensures.room);
    }

pub returns-clause-written : goal.returns-clause-written
returns-clause-written g c =
    subst (λ items. PushesInts g.P.Shaped.data.lists g.I.ColumnInt.number (map (g.W.Part.of c.args.which.now) items) (fast_items c.args.ints) (fast_items c.loop-item.ints))
    (take_all c.loop-item.item-index c.args.items.now (omega (arith, c.loop-item-test.false))) c.loop-item.invariant.pushed
