use Rattle.std.proofs.Common.{map, ap, ◌∙◌, arith}
use Rattle.std.proofs.lemmas.List.{map-append}
use Rattle.bitcode_memory.specs.LittleEndian.{little_endian}
use Rattle.bitcode_int_columns.proofs.WideningLemmas.{numbers_more, rest_more}
use Rattle.bitcode_int_columns.proofs.pack_ints.read.widen_numbers.Goals as goal

pub loop-i-preserved : goal.loop-i-preserved
loop-i-preserved g c = record {
  left = rest_more g.N.SizedUInt.width c.loop-i._i c.args.bytes.now _ _ c.loop-i.invariant.left c.in_ok-narrow.ensures.rest;
  widened = ap (map (λ u. little_endian (g.T.Int.une_bytes u))) c.push_reserved.ensures.items
      ∙ map-append (λ u. little_endian (g.T.Int.une_bytes u)) _ _
      ∙ numbers_more g.N.SizedUInt.width c.loop-i._i _ _ c.args.bytes.now _ _ _ _ _ c.loop-i.invariant.widened c.loop-i.invariant.left
      c.in_ok-narrow.ensures.taken c.to_wide.ensures.same c.widened.ensures;
  size = omega (arith, c.push_reserved.ensures.len, c.loop-i.invariant.size);
  room = omega (arith, c.push_reserved.ensures.capacity, c.loop-i.invariant.room);
}
