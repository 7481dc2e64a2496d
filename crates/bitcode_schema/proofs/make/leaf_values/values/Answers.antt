-- Each turn takes one datum, and its value has a place.
use Rattle.std.proofs.Common.{arith}
use Rattle.bitcode_coder.proofs.TakingLemmas.{takes_none, takes_one_more, taken_and_left}
use Rattle.bitcode_schema.specs.Making.{MakesAs}
use Rattle.bitcode_schema.proofs.make.leaf_values.values.Goals as goal

pub loop-made-init : goal.loop-made-init
loop-made-init g c = record {
  each = takes_none (MakesAs g.T.Becomes.content) (g.D.HoldsData.held c.args.column.now) c.in_ok-values.values.items c.in_ok-values.ensures.items;
  size = c.in_ok-values.ensures.len;
  room = c.in_ok-values.ensures.capacity;
}

pub decode-requires : goal.decode-requires
decode-requires g c =
    let taken =
    taken_and_left (MakesAs g.T.Becomes.content) c.loop-made._made (g.D.HoldsData.held c.args.column.now) (g.D.HoldsData.held c.loop-made.column) c.loop-made.values.items
    c.loop-made.invariant.each in
    omega (arith, c.requires, c.loop-made-test.true, taken)

pub loop-made-preserved : goal.loop-made-preserved
loop-made-preserved g c =
    let one = c.in_ok-decode.ensures.made in
    record {
      each =
          takes_one_more (MakesAs g.T.Becomes.content) c.loop-made._made (g.D.HoldsData.held c.args.column.now) (g.D.HoldsData.held c.loop-made.column) (g.D.HoldsData.held c.decode.new.self)
          c.loop-made.values.items c.push_back_reserved.new.self.items c.value.result c.loop-made.invariant.each
          (record { datum = one.datum; taken = one.taken; made = rw c.value.ensures (g.met.T.Becomes.made _ one.datum one.made) })
          c.push_back_reserved.ensures.items;
      size = omega (arith, c.push_back_reserved.ensures.len, c.loop-made.invariant.size);
      room = omega (arith, c.push_back_reserved.ensures.capacity, c.loop-made.invariant.room);
    }
