-- One integer more for each value.
use Rattle.std.proofs.Common.{subst, sym, ◌+◌, ◌∙◌, ◌++◌, [], ◌∷◌, ap, take, arith}
use Rattle.std.proofs.lemmas.List.{take_more, take_all}
use Rattle.bitcode_memory.specs.Fast.{fast_items}
use Rattle.bitcode_ints.specs.Int.{PushesInts}
use Rattle.bitcode_ints.proofs.PushedIntLemmas.{pushes_none, pushes_one_more}
use Rattle.bitcode_ints.proofs.int.AsInt.push_ints.Goals as goal

pub loop-value-init : goal.loop-value-init
loop-value-init g c = record {
  pushed = pushes_none g.Self.Shaped.data.lists g.I.ColumnInt.number (fast_items c.args.ints.now);
  room = omega arith;
}

pub loop-value-preserved : goal.loop-value-preserved
loop-value-preserved g c =
    let i = c.loop-value.value-index in
    record {
      pushed =
          pushes_one_more g.Self.Shaped.data.lists g.I.ColumnInt.number (take i c.args.values.now) (take (i + 1) c.args.values.now) c.value-item.result c.to_int.result
          (fast_items c.args.ints.now) (fast_items c.loop-value.ints) (fast_items c.push_unchecked.new.self) c.loop-value.invariant.pushed c.to_int.ensures c.push_unchecked.ensures.items
          (take_more c.args.values.now i c.value-item.result c.loop-value-test.true ∙ ap (λ t. take i c.args.values.now ++ t ∷ []) (sym c.value-item.is));
      room = omega (arith, c.loop-value.invariant.room, c.push_unchecked.ensures.room);
    }

pub returns-clause-written : goal.returns-clause-written
returns-clause-written g c =
    subst (λ values. PushesInts g.Self.Shaped.data.lists g.I.ColumnInt.number values (fast_items c.args.ints.now) (fast_items c.loop-value.ints))
    (take_all c.loop-value.value-index c.args.values.now (omega (arith, c.loop-value-test.false))) c.loop-value.invariant.pushed
