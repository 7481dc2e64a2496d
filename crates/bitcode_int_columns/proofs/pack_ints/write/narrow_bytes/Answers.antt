use Rattle.std.proofs.Common.{ap, ◌∙◌, refl, subst, arith}
use Rattle.std.proofs.lemmas.List.Elements.{All-more}
use Rattle.bitcode_memory.specs.Ints.{IsNumber, number_of}
use Rattle.bitcode_int_columns.proofs.NarrowLemmas.{narrowed, map_more}
use Rattle.bitcode_int_columns.proofs.pack_ints.write.narrow_bytes.Goals as goal

pub loop-entry-preserved : goal.loop-entry-preserved
loop-entry-preserved g c = record {
  numbers = map_more _ g.B.Int.number _ _ _ _ _ _ _ c.loop-entry-test.true c.entry-item.is c.loop-entry.invariant.numbers
      (c.from_byte.ensures ∙ ap (number_of 1 g.B.Int.signed)
      (narrowed _ _ 1 _ _ _ _ _ (g.T.Int.number c.entry-item.result) g.met.T.Int.unsigned_law c.to_unsigned.ensures.value c.wrapping_sub.ensures c.to_wide-distance.ensures.same refl))
      c.push_reserved.ensures.items;
  in_range = All-more (λ e. IsNumber g.T.Int.width g.T.Int.signed (g.T.Int.number e)) _ _ _ c.loop-entry-test.true c.loop-entry.invariant.in_range
      (subst (λ e. IsNumber g.T.Int.width g.T.Int.signed (g.T.Int.number e)) c.entry-item.is c.to_unsigned.ensures.in_range);
  size = omega (arith, c.push_reserved.ensures.len, c.loop-entry.invariant.size);
  room = omega (arith, c.push_reserved.ensures.capacity, c.loop-entry.invariant.room);
}
