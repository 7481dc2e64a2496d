-- Four floats more, and then those behind the last four.
use Rattle.std.proofs.Common.{◌≡◌, ℕ, ◌+◌, ◌*◌, ◌/◌, ◌++◌, List, length, map, refl, ap, ◌∙◌, arith}
use Rattle.std.specs.Prelude.{to_bits}
use Rattle.std.proofs.lemmas.List.{length-take}
use Rattle.std.specs.Float.{Float, binary32}
use Rattle.bitcode_memory.specs.LittleEndian.{raw_text}
use Rattle.bitcode_int_columns.proofs.NarrowLemmas.{raw_none}
use Rattle.bitcode_float_columns.specs.FloatColumn.{low_of}
use Rattle.bitcode_float_columns.proofs.SplitLemmas.{four_more, then_others, lows_join, lows_of_text, length_of_text}
use Rattle.bitcode_float_columns.proofs.split.push_lows.Goals as goal

abbrev text : List Float → List ℕ
text xs = raw_text 3 (map (λ x. low_of (to_bits binary32 x)) xs)

pub loop-block-init : goal.loop-block-init
loop-block-init c = record { written = raw_none 3 c.args.out.items; len = omega arith; capacity = refl }

pub loop-block-preserved : goal.loop-block-preserved
loop-block-preserved c =
    let was = c.loop-block.invariant in
    let four = c.four_at.result in
    let here = c.text_of_four-text.result in
    let size : length here ≡ 16 = length_of_text four here c.four_at.ensures.len c.text_of_four-text.ensures in
    record {
      written =
          four_more text lows_join c.args.floats.now c.args.out.items c.loop-block.block four c.loop-block.out.items c.push_bytes.new.out.items
          c.four_at.ensures.items was.written
          (c.push_bytes.ensures.written ∙ ap (λ xs. c.loop-block.out.items ++ xs) (lows_of_text four here c.four_at.ensures.len c.text_of_four-text.ensures));
      len = omega (arith, c.push_bytes.ensures.len, was.len, size, length-take 12 here);
      capacity = c.push_bytes.ensures.capacity ∙ was.capacity;
    }

pub returns-clause-written : goal.returns-clause-written
returns-clause-written c =
    let at_end : c.loop-block.block ≡ length c.args.floats.now / 4 = omega arith in
    then_others text lows_join c.args.floats.now c.args.out.items (4 * (length c.args.floats.now / 4)) c.split_at.result.1.now c.loop-block.out.items c.push_few_lows.result.items
    c.split_at.ensures.back (rw at_end at c.loop-block.invariant.written) c.push_few_lows.ensures.written
