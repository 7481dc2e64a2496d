-- Each turn deals one payload.
use Rattle.std.proofs.Common.{◌+◌, drop, arith}
use Rattle.std.proofs.lemmas.List.{drop_all}
use Rattle.bitcode_schema.proofs.DealLemmas.{dealt_next, dealt_all, left_from}
use Rattle.bitcode_schema.proofs.make.deal.deal.Goals as goal

pub loop-i-preserved : goal.loop-i-preserved
loop-i-preserved c = record {
  dealt =
      dealt_next c.args.variants.now _ _ (drop (c.loop-i.i + 1) c.args.variants.now) _ _ c.loop-i.choices.items _ _ c.in_ok-payload.payload c.loop-i.invariant.dealt
      (left_from c.args.variants.now c.loop-i.i (c.loop-i.i + 1) _ (omega arith) (omega (arith, c.loop-i-test.true)))
      c.in_ok-payload.ensures c.push_back_reserved.ensures.items;
  len = omega (arith, c.push_back_reserved.ensures.len, c.loop-i.invariant.len);
  room = omega (arith, c.push_back_reserved.ensures.capacity, c.loop-i.invariant.room);
}

pub returns : goal.returns
returns c = dealt_all c.args.variants.now _ _ _ c.loop-i.choices.items c.loop-i.invariant.dealt
    (drop_all c.loop-i.i c.args.variants.now (omega (arith, c.loop-i-test.false)))
