use Rattle.std.proofs.Common.{◌%◌, ◌^◌, refl, subst, ◌∙◌, arith}
use Rattle.std.proofs.Math.Nat.{zero-mul, add-mul}
use Rattle.std.proofs.lemmas.List.Elements.{All-more, All-nil}
use Rattle.bitcode_memory.specs.Ints.{IsNumber}
use Rattle.bitcode_int_columns.specs.Narrowing.{above}
use Rattle.bitcode_int_columns.proofs.NarrowLemmas.{narrowed, raw_none, raw_more}
use Rattle.bitcode_int_columns.proofs.pack_ints.write.push_each.Goals as goal

pub loop-entry-init : goal.loop-entry-init
loop-entry-init g c = record {
  written = raw_none g.N.SizedUInt.width c.args.out.now.items;
  in_range = All-nil (λ e. IsNumber g.T.Int.width g.T.Int.signed (g.T.Int.number e));
  len = omega (arith, zero-mul g.N.SizedUInt.width);
  capacity = refl;
}

pub loop-entry-preserved : goal.loop-entry-preserved
loop-entry-preserved g c =
    let width = g.N.SizedUInt.width in
    let was = c.loop-entry.invariant in
    let F = λ (e : g.row.T.Denot). above g.T.Int.width (g.T.Unsigned.SizedUInt.value c.args.base) (g.T.Int.number e) % 256 ^ width in
    record {
      written = raw_more width F c.args.entries.now c.loop-entry.entry-index _ c.entry-item.result c.args.out.now.items c.loop-entry.out.items c.push.new.out.items
          (g.N.SizedUInt.value c.from_wide.result) c.loop-entry-test.true c.entry-item.is was.written
          (narrowed _ _ _ _ _ _ _ _ (g.T.Int.number c.entry-item.result) g.met.T.Int.unsigned_law c.to_unsigned.ensures.value c.wrapping_sub-distance.ensures c.to_wide.ensures.same c.from_wide.ensures)
          c.push.ensures.written;
      in_range = All-more (λ e. IsNumber g.T.Int.width g.T.Int.signed (g.T.Int.number e)) _ _ _ c.loop-entry-test.true was.in_range
          (subst (λ e. IsNumber g.T.Int.width g.T.Int.signed (g.T.Int.number e)) c.entry-item.is c.to_unsigned.ensures.in_range);
      len = omega (arith, c.push.ensures.len, was.len, add-mul c.loop-entry.entry-index 1 width);
      capacity = c.push.ensures.capacity ∙ was.capacity;
    }
