-- Four floats more, and then those behind the last four.
use Rattle.std.proofs.Common.{◌≡◌, ◌*◌, ◌/◌, ◌++◌, List, length, map, take, drop, refl, ap, ◌∙◌, arith}
use Rattle.std.specs.Prelude.{ℕ, to_bits}
use Rattle.std.specs.Float.{Float, binary64}
use Rattle.bitcode_memory.specs.LittleEndian.{raw_text}
use Rattle.bitcode_int_columns.proofs.NarrowLemmas.{raw_none}
use Rattle.bitcode_float_columns.proofs.SplitLemmas.{four_more, then_others}
use Rattle.bitcode_floats.proofs.DirectLemmas.{bits_join}
use Rattle.bitcode_floats.proofs.direct.push_fours.Goals as goal

abbrev text : List Float → List ℕ
text xs = raw_text 8 (map (λ x. to_bits binary64 x) xs)

pub loop-block-init : goal.loop-block-init
loop-block-init c = record { written = raw_none 8 c.args.out.items; len = omega arith; capacity = refl }

pub loop-block-preserved : goal.loop-block-preserved
loop-block-preserved c =
    let was = c.loop-block.invariant in
    let all = c.args.floats.now in
    let four = take 4 (drop (4 * c.loop-block.block) all) in
    let so_far = c.loop-block.out.items in
    record {
      written =
          four_more text bits_join all c.args.out.items c.loop-block.block four so_far c.push_bytes.new.out.items refl was.written
          (c.push_bytes.ensures.written ∙ ap (λ bytes. so_far ++ bytes) c.text_of_four-text.ensures);
      len = omega (arith, c.push_bytes.ensures.len, was.len);
      capacity = c.push_bytes.ensures.capacity ∙ was.capacity;
    }

pub returns : goal.returns
returns c =
    let at_end : c.loop-block.block ≡ length c.args.floats.now / 4 = omega arith in
    then_others text bits_join c.args.floats.now c.args.out.items (4 * (length c.args.floats.now / 4)) c.split_at.result.1.now c.loop-block.out.items c.push_each.result.items
    c.split_at.ensures.back (rw at_end at c.loop-block.invariant.written) c.push_each.ensures.written
