-- One entry more for each item.
use Rattle.std.proofs.Common.{sym, ◌∙◌, ◌++◌, [], ◌∷◌, ap, map, append-nil, arith}
use Rattle.std.specs.Prelude.{to_bits}
use Rattle.std.specs.Float.{binary64}
use Rattle.std.proofs.lemmas.List.{take_all}
use Rattle.bitcode_memory.specs.Fast.{fast_items}
use Rattle.bitcode_coder.proofs.PushingLemmas.{one_part_more}
use Rattle.bitcode_floats.proofs.float64.push_parts.Goals as goal

pub loop-item-init : goal.loop-item-init
loop-item-init g c = record {
  pushed = sym (append-nil (fast_items c.args.bits));
  room = omega arith;
}

pub loop-item-preserved : goal.loop-item-preserved
loop-item-preserved g c = record {
  pushed =
      one_part_more (λ item. to_bits binary64 (g.W.Part.of c.args.which.now item)) c.args.items.now c.loop-item.item-index c.item-item.result (fast_items c.args.bits) (fast_items c.loop-item.bits)
      (fast_items c.push_unchecked.new.self) c.loop-item-test.true c.item-item.is c.loop-item.invariant.pushed
      (c.push_unchecked.ensures.items
      ∙ ap (λ bits. fast_items c.loop-item.bits ++ bits ∷ []) (c.f64_to_bits_with_nan.ensures ∙ ap (to_bits binary64) c.part.ensures));
  room = omega (arith, c.loop-item.invariant.room, c.push_unchecked.ensures.room);
}

pub returns-clause-written : goal.returns-clause-written
returns-clause-written g c =
    c.loop-item.invariant.pushed
    ∙ ap (λ items. fast_items c.args.bits ++ map (λ item. to_bits binary64 (g.W.Part.of c.args.which.now item)) items)
    (take_all c.loop-item.item-index c.args.items.now (omega (arith, c.loop-item-test.false)))
