-- One text more.
use Rattle.std.proofs.Common.{sym, subst, arith}
use Rattle.bitcode_memory.specs.Fast.{fast_items}
use Rattle.bitcode_shapes.specs.Datum.{text}
use Rattle.bitcode_coder.specs.Cutting.{cut}
use Rattle.bitcode_coder.specs.Length.{written_lengths}
use Rattle.bitcode_coder.proofs.PushedTextLemmas.{texts_more}
use Rattle.bitcode_coder.proofs.str.encoder.StrEncoder.encode_long.Goals as goal

pub loop-item-preserved : goal.loop-item-preserved
loop-item-preserved g c =
    let lists = g.P.Shaped.data.lists in
    let bytes = c.as_bytes-text.result.now in
    record {
      count = omega (arith, c.loop-item.invariant.count);
      pushed =
          texts_more lists (g.W.Part.of c.args.which.now) c.args.items.now (cut (written_lengths c.args.self.now.lengths) (fast_items c.args.self.now.bytes))
          (cut (written_lengths c.loop-item.self.lengths) (fast_items c.loop-item.self.bytes))
          (cut (written_lengths c.encode_text.new.self.lengths) (fast_items c.encode_text.new.self.bytes))
          c.loop-item.item-index c.item-item.result bytes c.loop-item-test.true c.item-item.is c.loop-item.invariant.pushed
          (subst (λ t. lists t (text bytes)) c.part.ensures (subst (λ b. lists c.part.result.now (text b)) (sym c.as_bytes-text.ensures.value) c.as_text.ensures))
          c.in_ok-encode_text.ensures.written;
      room = omega (arith, c.loop-item.invariant.room, c.in_ok-encode_text.ensures.room);
    }
