-- One length more for each of the chunk.
use Rattle.std.proofs.Common.{sym, append-nil, arith}
use Rattle.bitcode_memory.specs.Fast.{fast_items}
use Rattle.bitcode_coder.proofs.LengthPartLemmas.{sizes_more, sizes_whole}
use Rattle.bitcode_coder.proofs.length.encoder.push_short.Goals as goal

pub loop-t-init : goal.loop-t-init
loop-t-init g c = record { written = sym (append-nil (fast_items c.args.small)); room = omega arith }

pub loop-t-preserved : goal.loop-t-preserved
loop-t-preserved g c = record {
  written =
      sizes_more g.T.Len.size (fast_items c.args.small) (fast_items c.loop-t.small) (fast_items c.push_unchecked.new.self) c.args.chunk.now c.loop-t.t-index c.t-item.result
      c.len.result c.loop-t-test.true c.t-item.is c.len.ensures c.loop-t.invariant.written c.push_unchecked.ensures.items;
  room = omega (arith, c.loop-t.invariant.room, c.push_unchecked.ensures.room);
}

pub returns-clause-written : goal.returns-clause-written
returns-clause-written g c =
    sizes_whole g.T.Len.size (fast_items c.args.small) (fast_items c.loop-t.small) c.args.chunk.now c.loop-t.t-index (omega (arith, c.loop-t-test.false)) c.loop-t.invariant.written
