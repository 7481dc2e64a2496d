use Rattle.std.proofs.Common.{◌≡◌, ◌≤◌, ◌+◌, ◌*◌, ◌/◌, ◌%◌, ◌∙◌, ◌^◌, ◌++◌, length, map, All, vec_len, vec_capacity, sym, ap, subst, arith}
use Rattle.std.proofs.Math.Nat.{add-mul, mul-le-mul_right}
use Rattle.std.proofs.lemmas.List.Elements.{All-append}
use Rattle.bitcode_memory.specs.LittleEndian.{raw_text}
use Rattle.bitcode_memory.specs.Ints.{IsNumber}
use Rattle.bitcode_int_columns.specs.Narrowing.{above}
use Rattle.bitcode_columns.proofs.IntColumnLemmas.{some_width}
use Rattle.bitcode_int_columns.proofs.BlockLemmas.{raw_joined, some_in_block, whole_block}
use Rattle.bitcode_int_columns.proofs.pack_ints.write.push_numbers.Goals as goal

pub nonzero_div-in_block : goal.nonzero_div-in_block
nonzero_div-in_block g c = omega (arith, c.size-in_block.ensures, some_width g.N.SizedUInt.width g.met.N.SizedUInt.width_law)

pub in_blocks-requires : goal.in_blocks-requires
in_blocks-requires g c = subst (λ size. 1 ≤ 1024 / size) (sym c.size-in_block.ensures) (some_in_block g.N.SizedUInt.width g.met.N.SizedUInt.width_law)

pub push_blocks-requires : goal.push_blocks-requires
push_blocks-requires g c = record {
  some = subst (λ size. 1 ≤ 1024 / size) (sym c.size-in_block.ensures) (some_in_block g.N.SizedUInt.width g.met.N.SizedUInt.width_law);
  size = subst (λ size. 1024 / size * g.N.SizedUInt.width ≡ 1024) (sym c.size-in_block.ensures) (whole_block g.N.SizedUInt.width g.met.N.SizedUInt.width_law);
  whole = ap (λ n. n % (1024 / c.size-in_block.result)) c.split_at.ensures.front_len ∙ c.in_blocks.ensures.whole;
  room = omega (arith, c.requires, ap vec_len c.replace-held.ensures.value, ap vec_capacity c.replace-held.ensures.value, mul-le-mul_right {m = length c.split_at.result.0.now} {n = length c.args.entries.now} g.N.SizedUInt.width (omega (arith, c.split_at.ensures.front_len, c.in_blocks.ensures.within)));
}

pub push_rest-requires : goal.push_rest-requires
push_rest-requires g c =
    let front = c.split_at.result.0.now in
    let back = c.split_at.result.1.now in
    let both : length front + length back ≡ length c.args.entries.now = omega (arith, c.split_at.ensures.front_len, c.split_at.ensures.back_len) in
    omega (
      arith,
      c.requires,
      ap vec_len c.replace-held.ensures.value,
      ap vec_capacity c.replace-held.ensures.value,
      c.push_blocks.ensures.len,
      c.push_blocks.ensures.capacity,
      add-mul (length front) (length back) g.N.SizedUInt.width,
      ap (λ n. n * g.N.SizedUInt.width) both,
    )

pub returns : goal.returns
returns g c =
    let width = g.N.SizedUInt.width in
    let entries = c.args.entries.now in
    let front = c.split_at.result.0.now in
    let back = c.split_at.result.1.now in
    let F = λ (e : g.row.T.Denot). above g.T.Int.width (g.T.Unsigned.SizedUInt.value c.args.base) (g.T.Int.number e) % 256 ^ width in
    let P : g.row.T.Denot → Type 0 = λ e. IsNumber g.T.Int.width g.T.Int.signed (g.T.Int.number e) in
    record {
      written = raw_joined width F entries front back c.args.out.now.items c.push_blocks.result.items c.push_rest.new.out.items c.split_at.ensures.by_index.0
          (c.push_blocks.ensures.written ∙ ap (λ v. v.items ++ raw_text width (map F front)) c.replace-held.ensures.value) c.push_rest.ensures.written;
      in_range = subst (All P) (sym c.split_at.ensures.by_index.0) (All-append P front back c.push_blocks.ensures.in_range c.push_rest.ensures.in_range);
    }
