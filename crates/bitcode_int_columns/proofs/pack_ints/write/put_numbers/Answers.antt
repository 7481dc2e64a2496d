use Rattle.std.proofs.Common.{◌≡◌, ◌*◌, ◌%◌, ◌^◌, length, map, take, All, ap, sym, ◌∙◌, subst, arith}
use Rattle.std.proofs.lemmas.List.{take_all}
use Rattle.std.proofs.lemmas.List.Elements.{All-more, All-nil}
use Rattle.bitcode_memory.specs.LittleEndian.{raw_text}
use Rattle.bitcode_memory.specs.Ints.{IsNumber}
use Rattle.bitcode_int_columns.specs.Narrowing.{above}
use Rattle.bitcode_memory.proofs.LittleEndianLemmas.{length-number_bytes}
use Rattle.bitcode_int_columns.proofs.NarrowLemmas.{narrowed}
use Rattle.bitcode_columns.proofs.PackingLemmas.{put_size}
use Rattle.bitcode_int_columns.proofs.BlockLemmas.{front_none, front_more, next_place}
use Rattle.bitcode_int_columns.proofs.pack_ints.write.put_numbers.Goals as goal

pub loop-place-init : goal.loop-place-init
loop-place-init g c = record {
  written = front_none g.N.SizedUInt.width c.args.bytes.now;
  in_range = All-nil (λ e. IsNumber g.T.Int.width g.T.Int.signed (g.T.Int.number e));
  size = c.requires;
}

pub loop-place-preserved : goal.loop-place-preserved
loop-place-preserved g c =
    let width = g.N.SizedUInt.width in
    let entries = c.args.entries.now in
    let i = c.loop-place.place in
    let was = c.loop-place.invariant in
    let start : i * c.size-size.result ≡ i * width = ap (λ n. i * n) c.size-size.ensures in
    let F = λ (e : g.row.T.Denot). above g.T.Int.width (g.T.Unsigned.SizedUInt.value c.args.base) (g.T.Int.number e) % 256 ^ width in
    record {
      written = front_more width F entries i _ c.index-entries-place.result (i * c.size-size.result) _ c.loop-place.bytes c.put.new.bytes (g.N.SizedUInt.value c.from_wide.result)
          c.loop-place-test.true c.index-entries-place.is was.size was.written
          (narrowed _ _ _ _ _ _ _ _ (g.T.Int.number c.index-entries-place.result) g.met.T.Int.unsigned_law c.to_unsigned.ensures.value c.wrapping_sub-distance.ensures c.to_wide.ensures.same c.from_wide.ensures)
          c.put.ensures start;
      in_range = All-more (λ e. IsNumber g.T.Int.width g.T.Int.signed (g.T.Int.number e)) _ _ _ c.loop-place-test.true was.in_range
          (subst (λ e. IsNumber g.T.Int.width g.T.Int.signed (g.T.Int.number e)) c.index-entries-place.is c.to_unsigned.ensures.in_range);
      size = put_size (i * c.size-size.result) _ c.loop-place.bytes c.put.new.bytes
          (omega (arith, start, was.size, next_place width i (length entries) c.loop-place-test.true, c.size-size.ensures))
          (omega (arith, ap length c.put.ensures, length-number_bytes width (g.N.SizedUInt.value c.from_wide.result), c.size-size.ensures))
          ∙ was.size;
    }

pub returns : goal.returns
returns g c =
    let width = g.N.SizedUInt.width in
    let entries = c.args.entries.now in
    let i = c.loop-place.place in
    let was = c.loop-place.invariant in
    let all : i ≡ length entries = omega arith in
    let whole : take i entries ≡ entries = take_all i entries (omega arith) in
    let F = λ (e : g.row.T.Denot). above g.T.Int.width (g.T.Unsigned.SizedUInt.value c.args.base) (g.T.Int.number e) % 256 ^ width in
    let P : g.row.T.Denot → Type 0 = λ e. IsNumber g.T.Int.width g.T.Int.signed (g.T.Int.number e) in
    record {
      written = sym (take_all (i * width) c.loop-place.bytes (omega (arith, was.size, ap (λ n. n * width) all))) ∙ was.written ∙ ap (λ xs. raw_text width (map F xs)) whole;
      in_range = subst (All P) whole was.in_range;
    }
