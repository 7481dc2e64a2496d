-- Each turn makes the list of the next length.
use Rattle.std.proofs.Common.{◌≡◌, Some, arith, ap, length, length-append}
use Rattle.bitcode_coder.specs.Cutting.{cut}
use Rattle.bitcode_coder.specs.Length.{lengths_left}
use Rattle.bitcode_coder.proofs.LengthPartLemmas.{taken_from}
use Rattle.bitcode_schema.proofs.CutLemmas.{made_none, pieces_next, pieces_all}
use Rattle.bitcode_schema.proofs.make.gather.lists.Goals as goal

pub loop-made-init : goal.loop-made-init
loop-made-init g c = record {
  each =
      made_none (λ value one. g.W.Whole.view value ≡ Some one) (cut (lengths_left c.args.lengths.now) c.args.items.items) c.in_ok-values.values.items
      c.in_ok-values.ensures.items;
  enough = c.requires.items;
  left = omega (arith, c.requires.lengths);
  len = c.in_ok-values.ensures.len;
  room = c.in_ok-values.ensures.capacity;
}

pub loop-made-preserved : goal.loop-made-preserved
loop-made-preserved g c =
    let old = lengths_left c.loop-made.lengths in
    let left = lengths_left c.decode.new.self in
    let list = c.in_ok-list.list in
    let taken = c.in_ok-list.ensures.taken in
    let size = c.in_ok-list.ensures.size in
    let one = taken_from old c.decode.result left c.decode.ensures.taken in
    record {
      each =
          pieces_next (λ value one. g.W.Whole.view value ≡ Some one) (lengths_left c.args.lengths.now) c.args.items.items c.decode.result old left
          c.loop-made.items.items list.items c.take.new.items.items c.loop-made.values.items c.push_back_reserved.new.self.items c.whole.result
          c.loop-made.invariant.each c.decode.ensures.taken taken size c.whole.ensures c.push_back_reserved.ensures.items;
      enough = omega (arith, c.loop-made.invariant.enough, one.0, ap length taken, length-append list.items c.take.new.items.items, size);
      left = omega (arith, c.loop-made.invariant.left, one.1);
      len = omega (arith, c.push_back_reserved.ensures.len, c.loop-made.invariant.len);
      room = omega (arith, c.push_back_reserved.ensures.capacity, c.loop-made.invariant.room);
    }

pub returns : goal.returns
returns g c = record {
  made =
      pieces_all (λ value one. g.W.Whole.view value ≡ Some one) (lengths_left c.args.lengths.now) c.args.items.items (lengths_left c.loop-made.lengths) c.loop-made.items.items
      c.loop-made.values.items c.loop-made.invariant.each (omega (arith, c.loop-made.invariant.left, c.loop-made-test.false));
}
