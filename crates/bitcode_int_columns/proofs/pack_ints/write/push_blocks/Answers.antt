use Rattle.std.proofs.Common.{◌≡◌, ◌≤◌, ◌+◌, ◌*◌, ◌/◌, ◌%◌, ◌^◌, ◌++◌, length, take, drop, map, All, vec_len, refl, ap, sym, ◌∙◌, subst, arith}
use Rattle.std.proofs.Math.Nat.{zero-mul, add-mul, mul-le-mul_right, div-mul-le_self}
use Rattle.std.proofs.lemmas.Nat.{div-add-mod'}
use Rattle.std.proofs.lemmas.List.{length-drop, drop-drop, take_all}
use Rattle.std.proofs.lemmas.List.Elements.{All-append, All-nil}
use Rattle.bitcode_memory.specs.LittleEndian.{raw_text}
use Rattle.bitcode_memory.specs.Ints.{IsNumber}
use Rattle.bitcode_int_columns.specs.Narrowing.{above}
use Rattle.bitcode_int_columns.proofs.NarrowLemmas.{raw_none}
use Rattle.bitcode_int_columns.proofs.BlockLemmas.{raw_joined, block_more, block_room}
use Rattle.bitcode_int_columns.proofs.pack_ints.write.push_blocks.Goals as goal

pub loop-block-init : goal.loop-block-init
loop-block-init g c = record {
  written = rw (zero-mul c.args.in_block) (raw_none g.N.SizedUInt.width c.args.out.items);
  in_range = rw (zero-mul c.args.in_block) (All-nil (λ e. IsNumber g.T.Int.width g.T.Int.signed (g.T.Int.number e)));
  rest = rw (zero-mul c.args.in_block) refl;
  len = omega (arith, zero-mul c.args.in_block, zero-mul g.N.SizedUInt.width);
  capacity = omega arith;
}

pub split_at-requires : goal.split_at-requires
split_at-requires g c =
    let size = c.args.in_block in
    let i = c.loop-block._block in
    let next : (i + 1) * size ≤ length c.args.entries.now / size * size = mul-le-mul_right size (omega arith) in
    omega (
      arith,
      next,
      add-mul i 1 size,
      div-mul-le_self (length c.args.entries.now) size,
      ap length c.loop-block.invariant.rest,
      length-drop (i * size) c.args.entries.now,
    )

pub push_block-out-requires : goal.push_block-out-requires
push_block-out-requires g c =
    let width = g.N.SizedUInt.width in
    let one : length c.split_at.result.0.now * width ≡ c.args.in_block * width = ap (λ n. n * width) {y = c.args.in_block} c.split_at.ensures.front_len in
    record {
      size = one ∙ c.requires.size;
      room = omega (
        arith,
        c.requires.room,
        c.loop-block.invariant.len,
        c.loop-block.invariant.capacity,
        one,
        block_room width c.args.in_block c.loop-block._block (length c.args.entries.now) c.loop-block-test.true c.requires.some,
      );
    }

pub loop-block-preserved : goal.loop-block-preserved
loop-block-preserved g c =
    let width = g.N.SizedUInt.width in
    let entries = c.args.entries.now in
    let block = c.split_at.result.0.now in
    let size = c.args.in_block in
    let i = c.loop-block._block in
    let was = c.loop-block.invariant in
    let more : take ((i + 1) * size) entries ≡ take (i * size) entries ++ block = block_more size i entries c.loop-block.rest.now block was.rest c.split_at.ensures.front in
    let F = λ (e : g.row.T.Denot). above g.T.Int.width (g.T.Unsigned.SizedUInt.value c.args.base) (g.T.Int.number e) % 256 ^ width in
    let P : g.row.T.Denot → Type 0 = λ e. IsNumber g.T.Int.width g.T.Int.signed (g.T.Int.number e) in
    record {
      written = raw_joined width F (take ((i + 1) * size) entries) (take (i * size) entries) block c.args.out.items c.loop-block.out.items c.push_block-out.result.items more was.written c.push_block-out.ensures.written;
      in_range = subst (All P) (sym more) (All-append P (take (i * size) entries) block was.in_range c.push_block-out.ensures.in_range);
      rest = c.split_at.ensures.back ∙ ap (drop size) was.rest ∙ drop-drop size (i * size) entries ∙ ap (λ n. drop n entries) {y = (i + 1) * size} (omega (arith, add-mul i 1 size));
      len = omega (arith, c.push_block-out.ensures.len, was.len, ap (λ n. n * width) {y = size} c.split_at.ensures.front_len, add-mul (i * size) size width, ap (λ n. n * width) {x = (i + 1) * size} {y = i * size + size} (omega (arith, add-mul i 1 size)));
      capacity = omega (arith, was.capacity, c.push_block-out.ensures.capacity);
    }

pub returns : goal.returns
returns g c =
    let width = g.N.SizedUInt.width in
    let entries = c.args.entries.now in
    let size = c.args.in_block in
    let i = c.loop-block._block in
    let was = c.loop-block.invariant in
    let turns : i ≡ length entries / size = omega arith in
    let all : i * size ≡ length entries = ap (λ n. n * size) turns ∙ omega (arith, div-add-mod' (length entries) size, c.requires.whole) in
    let whole : take (i * size) entries ≡ entries = take_all (i * size) entries (omega arith) in
    let F = λ (e : g.row.T.Denot). above g.T.Int.width (g.T.Unsigned.SizedUInt.value c.args.base) (g.T.Int.number e) % 256 ^ width in
    let P : g.row.T.Denot → Type 0 = λ e. IsNumber g.T.Int.width g.T.Int.signed (g.T.Int.number e) in
    record {
      written = was.written ∙ ap (λ xs. c.args.out.items ++ raw_text width (map F xs)) whole;
      in_range = subst (All P) whole was.in_range;
      len = was.len ∙ ap (λ n. vec_len c.args.out + n * width) all;
      capacity = was.capacity;
    }
