-- Each turn takes one datum, and its value has a place.
use Rattle.std.proofs.Common.{arith}
use Rattle.bitcode_coder.proofs.TakingLemmas.{takes_none, takes_one_more, taken_and_left}
use Rattle.bitcode_coder.proofs.coder.Decoder.decode_many.Goals as goal

pub loop-made-init : goal.loop-made-init
loop-made-init g c = record {
  each = takes_none g.T.Shaped.data.makes (g.Self.HoldsData.held c.args.self.now) c.in_ok-items.items.items c.in_ok-items.ensures.items;
  size = c.in_ok-items.ensures.len;
  room = c.in_ok-items.ensures.capacity;
}

pub decode-requires : goal.decode-requires
decode-requires g c =
    let taken =
    taken_and_left g.T.Shaped.data.makes c.loop-made._made (g.Self.HoldsData.held c.args.self.now) (g.Self.HoldsData.held c.loop-made.self) c.loop-made.items.items c.loop-made.invariant.each in
    omega (arith, c.requires, c.loop-made-test.true, taken)

pub loop-made-preserved : goal.loop-made-preserved
loop-made-preserved g c = record {
  each =
      takes_one_more g.T.Shaped.data.makes c.loop-made._made (g.Self.HoldsData.held c.args.self.now) (g.Self.HoldsData.held c.loop-made.self) (g.Self.HoldsData.held c.decode.new.self)
      c.loop-made.items.items c.push_reserved.new.self.items c.in_ok-decode.field-0 c.loop-made.invariant.each c.in_ok-decode.ensures.made c.push_reserved.ensures.items;
  size = omega (arith, c.push_reserved.ensures.len, c.loop-made.invariant.size);
  room = omega (arith, c.push_reserved.ensures.capacity, c.loop-made.invariant.room);
}
