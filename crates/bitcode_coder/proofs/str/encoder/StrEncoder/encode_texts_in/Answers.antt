-- Short texts and then longer ones are written behind those that were.
use Rattle.std.proofs.Common.{◌≡◌, ◌+◌, ◌-◌, length, take, drop, ap, arith}
use Rattle.std.proofs.lemmas.List.{length-drop, take_all}
use Rattle.bitcode_memory.specs.Fast.{fast_items}
use Rattle.bitcode_coder.specs.Cutting.{cut}
use Rattle.bitcode_coder.specs.Length.{written_lengths}
use Rattle.bitcode_coder.proofs.PushedTextLemmas.{texts_behind}
use Rattle.bitcode_coder.proofs.str.encoder.StrEncoder.encode_texts_in.Goals as goal

pub loop-done-preserved : goal.loop-done-preserved
loop-done-preserved g c =
    let items = c.args.items.now in
    let done = c.loop-done.done in
    let short = c.in_ok-done.field-0 in
    let long = c.in_ok-done-2.field-0 in
    let old = cut (written_lengths c.args.self.now.lengths) (fast_items c.args.self.now.bytes) in
    let now = cut (written_lengths c.loop-done.self.lengths) (fast_items c.loop-done.self.bytes) in
    let between = cut (written_lengths c.encode_up_to.new.self.lengths) (fast_items c.encode_up_to.new.self.bytes) in
    let new = cut (written_lengths c.encode_longer.new.self.lengths) (fast_items c.encode_longer.new.self.bytes) in
    let of = g.W.Part.of c.args.which.now in
    let lists = g.P.Shaped.data.lists in
    let behind_done : take (length items - done) (drop done items) ≡ drop done items =
    take_all (length items - done) (drop done items) (omega (arith, length-drop done items)) in
    let behind_short : take (length items - (done + short)) (drop (done + short) items) ≡ drop (done + short) items =
    take_all (length items - (done + short)) (drop (done + short) items) (omega (arith, length-drop (done + short) items)) in
    record {
      within =
          omega (
            arith,
            c.loop-done.invariant.within,
            c.in_ok-done.ensures.count,
            c.in_ok-done-2.ensures.count,
            ap length behind_done,
            ap length behind_short,
            length-drop done items,
            length-drop (done + short) items,
          );
      pushed =
          texts_behind lists of items old between new (done + short) long _ behind_short
          (texts_behind lists of items old now between done short _ behind_done c.loop-done.invariant.pushed c.in_ok-done.ensures.written)
          c.in_ok-done-2.ensures.written;
      room = omega (arith, c.loop-done.invariant.room, c.in_ok-done.ensures.room, c.in_ok-done-2.ensures.room);
    }
