-- One length more for each of the chunk.
use Rattle.std.proofs.Common.{sym, append-nil, arith}
use Rattle.bitcode_coder.specs.Length.{written_lengths}
use Rattle.bitcode_coder.proofs.LengthPartLemmas.{sizes_more, sizes_whole}
use Rattle.bitcode_coder.proofs.length.encoder.LengthEncoder.encode_vectored_fallback.Goals as goal

pub loop-t-init : goal.loop-t-init
loop-t-init g c = record {
  written = sym (append-nil (written_lengths c.args.self.now));
  room = omega arith;
}

pub encode-requires : goal.encode-requires
encode-requires g c = omega (arith, c.requires, c.loop-t.invariant.room, c.loop-t-test.true)

pub loop-t-preserved : goal.loop-t-preserved
loop-t-preserved g c = record {
  written =
      sizes_more g.T.Len.size (written_lengths c.args.self.now) (written_lengths c.loop-t.self) (written_lengths c.encode.new.self) c.args.chunk.now c.loop-t.t-index c.t-item.result
      c.len.result c.loop-t-test.true c.t-item.is c.len.ensures c.loop-t.invariant.written c.in_ok-encode.ensures.written;
  room = omega (arith, c.loop-t.invariant.room, c.in_ok-encode.ensures.room);
}

pub returns-clause-written : goal.returns-clause-written
returns-clause-written g c =
    sizes_whole g.T.Len.size (written_lengths c.args.self.now) (written_lengths c.loop-t.self) c.args.chunk.now c.loop-t.t-index (omega (arith, c.loop-t-test.false)) c.loop-t.invariant.written
