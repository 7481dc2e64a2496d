-- A block more, and then the floats behind the last one.
use Rattle.std.proofs.Common.{◌≡◌, ◌*◌, ◌/◌, List, length, map, drop, refl, ap, ◌∙◌, arith}
use Rattle.std.specs.Prelude.{ℕ, to_bits}
use Rattle.std.specs.Float.{Float, binary64}
use Rattle.bitcode_memory.specs.LittleEndian.{raw_text}
use Rattle.bitcode_int_columns.proofs.NarrowLemmas.{raw_none}
use Rattle.bitcode_float_columns.proofs.SplitLemmas.{then_others}
use Rattle.bitcode_floats.proofs.DirectLemmas.{bits_join, block_more}
use Rattle.bitcode_floats.proofs.direct.push_all.Goals as goal

abbrev text : List Float → List ℕ
text xs = raw_text 8 (map (λ x. to_bits binary64 x) xs)

pub loop-block-init : goal.loop-block-init
loop-block-init c = record { written = raw_none 8 c.args.out.items; len = omega arith; capacity = refl }

pub loop-block-preserved : goal.loop-block-preserved
loop-block-preserved c =
    let was = c.loop-block.invariant in
    record {
      written =
          block_more c.args.floats.now (length c.args.floats.now / 64) c.loop-block.block-index _ c.as_chunks.result.0.now c.args.out.items c.loop-block.out.items
          c.push_block-out.result.items c.as_chunks.ensures.front (omega (arith, c.loop-block-test.true, c.as_chunks.ensures.front_len)) was.written c.push_block-out.ensures.written;
      len = omega (arith, c.push_block-out.ensures.len, was.len);
      capacity = c.push_block-out.ensures.capacity ∙ was.capacity;
    }

pub returns : goal.returns
returns c =
    let count : ℕ = length c.args.floats.now / 64 in
    let at_end : c.loop-block.block-index ≡ count = omega (arith, c.loop-block-test.false, c.loop-block.auto.block-index-end, c.as_chunks.ensures.front_len) in
    let behind : c.as_chunks.result.1.now ≡ drop (64 * count) c.args.floats.now = c.as_chunks.ensures.back ∙ ap (λ n. drop n c.args.floats.now) (omega arith) in
    then_others text bits_join c.args.floats.now c.args.out.items (64 * count) c.as_chunks.result.1.now c.loop-block.out.items c.push_fours.result.items
    behind (rw at_end at c.loop-block.invariant.written) c.push_fours.ensures
