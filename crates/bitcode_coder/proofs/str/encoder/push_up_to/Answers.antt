-- One text more.
use Rattle.std.proofs.Common.{refl, sym, subst, arith}
use Rattle.bitcode_memory.specs.Fast.{fast_items}
use Rattle.bitcode_shapes.specs.Datum.{text}
use Rattle.bitcode_coder.specs.Cutting.{cut}
use Rattle.bitcode_coder.specs.Length.{written_lengths}
use Rattle.bitcode_coder.proofs.StrLemmas.{pieces_pushed}
use Rattle.bitcode_coder.proofs.PushedTextLemmas.{texts_none, texts_more, whole_more}
use Rattle.bitcode_coder.proofs.str.encoder.push_up_to.Goals as goal

pub loop-item-init : goal.loop-item-init
loop-item-init g c = record {
  count = refl;
  pushed = texts_none g.P.Shaped.data.lists (cut (written_lengths c.args.lengths) (fast_items c.args.bytes));
  whole = c.requires.whole;
  lengths = omega arith;
  bytes = omega (arith, c.requires.bytes);
}

pub loop-item-preserved : goal.loop-item-preserved
loop-item-preserved g c =
    let lists = g.P.Shaped.data.lists in
    let bytes = c.as_bytes-text.result.now in
    let ns = written_lengths c.loop-item.lengths in
    let ms = written_lengths c.encode_less_than_255.new.self in
    let now = fast_items c.loop-item.bytes in
    let new = fast_items c.extend_few.new.self in
    record {
      count = omega (arith, c.loop-item.invariant.count);
      pushed =
          texts_more lists (g.W.Part.of c.args.which.now) c.args.items.now (cut (written_lengths c.args.lengths) (fast_items c.args.bytes)) (cut ns now) (cut ms new)
          c.loop-item.item-index c.item-item.result bytes c.loop-item-test.true c.item-item.is c.loop-item.invariant.pushed
          (subst (λ t. lists t (text bytes)) c.part.ensures (subst (λ b. lists c.part.result.now (text b)) (sym c.as_bytes-text.ensures.value) c.as_text.ensures))
          (pieces_pushed ns ms now new bytes c.loop-item.invariant.whole c.encode_less_than_255.ensures.written c.extend_few.ensures.items);
      whole = whole_more ns ms now new bytes c.loop-item.invariant.whole c.encode_less_than_255.ensures.written c.extend_few.ensures.items;
      lengths = omega (arith, c.loop-item.invariant.lengths, c.encode_less_than_255.ensures.room);
      bytes = omega (arith, c.loop-item.invariant.bytes, c.extend_few.ensures.room, c.if-text.false);
    }
