-- One entry more for each item.
use Rattle.std.proofs.Common.{sym, ◌∙◌, ◌++◌, [], ◌∷◌, ap, map, append-nil, arith}
use Rattle.std.proofs.lemmas.List.{take_all}
use Rattle.bitcode_memory.specs.Fast.{fast_items}
use Rattle.bitcode_coder.proofs.PushingLemmas.{one_part_more}
use Rattle.bitcode_floats.proofs.float32.push_parts.Goals as goal

pub loop-item-init : goal.loop-item-init
loop-item-init g c = record {
  pushed = sym (append-nil (fast_items c.args.values));
  room = omega arith;
}

pub loop-item-preserved : goal.loop-item-preserved
loop-item-preserved g c = record {
  pushed =
      one_part_more (g.W.Part.of c.args.which.now) c.args.items.now c.loop-item.item-index c.item-item.result (fast_items c.args.values) (fast_items c.loop-item.values)
      (fast_items c.push_unchecked.new.self) c.loop-item-test.true c.item-item.is c.loop-item.invariant.pushed
      (c.push_unchecked.ensures.items ∙ ap (λ part. fast_items c.loop-item.values ++ part ∷ []) c.part.ensures);
  room = omega (arith, c.loop-item.invariant.room, c.push_unchecked.ensures.room);
}

pub returns-clause-written : goal.returns-clause-written
returns-clause-written g c =
    c.loop-item.invariant.pushed
    ∙ ap (λ items. fast_items c.args.values ++ map (g.W.Part.of c.args.which.now) items)
    (take_all c.loop-item.item-index c.args.items.now (omega (arith, c.loop-item-test.false)))
