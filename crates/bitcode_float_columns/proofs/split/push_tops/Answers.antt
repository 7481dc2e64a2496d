-- Four floats more, and then those behind the last four.
use Rattle.std.proofs.Common.{◌≡◌, ℕ, ◌+◌, ◌*◌, ◌/◌, ◌++◌, List, length, map, take, drop, refl, sym, ap, ◌∙◌, arith}
use Rattle.std.specs.Prelude.{to_bits}
use Rattle.std.proofs.lemmas.List.{length-drop, take_all}
use Rattle.std.specs.Float.{Float, binary32}
use Rattle.std.proofs.lemmas.List.{append-nil, map-append}
use Rattle.bitcode_float_columns.specs.FloatColumn.{top_of}
use Rattle.bitcode_float_columns.proofs.SplitLemmas.{four_more, then_others, tops_of_text, length_of_text}
use Rattle.bitcode_float_columns.proofs.split.push_tops.Goals as goal

abbrev text : List Float → List ℕ
text xs = map (λ x. top_of (to_bits binary32 x)) xs

-- the slice of the last four
whole_tail : (here : List ℕ) → length here ≡ 16 → take 4 (drop 12 here) ≡ drop 12 here
whole_tail here size = take_all 4 (drop 12 here) (omega (arith, length-drop 12 here))

pub loop-block-init : goal.loop-block-init
loop-block-init c = record { written = sym (append-nil c.args.out.items); len = omega arith; capacity = refl }

pub loop-block-preserved : goal.loop-block-preserved
loop-block-preserved c =
    let was = c.loop-block.invariant in
    let four = c.four_at.result in
    let here = c.text_of_four-text.result in
    let size : length here ≡ 16 = length_of_text four here c.four_at.ensures.len c.text_of_four-text.ensures in
    record {
      written =
          four_more text (λ xs ys. map-append (λ x. top_of (to_bits binary32 x)) xs ys) c.args.floats.now c.args.out.items c.loop-block.block four c.loop-block.out.items c.push_bytes.new.out.items
          c.four_at.ensures.items was.written
          (c.push_bytes.ensures.written ∙ ap (λ xs. c.loop-block.out.items ++ xs) (whole_tail here size ∙ tops_of_text four here c.four_at.ensures.len c.text_of_four-text.ensures));
      len = omega (arith, c.push_bytes.ensures.len, was.len, size, length-drop 12 here);
      capacity = c.push_bytes.ensures.capacity ∙ was.capacity;
    }

pub returns : goal.returns
returns c =
    let at_end : c.loop-block.block ≡ length c.args.floats.now / 4 = omega arith in
    then_others text (λ xs ys. map-append (λ x. top_of (to_bits binary32 x)) xs ys) c.args.floats.now c.args.out.items (4 * (length c.args.floats.now / 4)) c.split_at.result.1.now c.loop-block.out.items c.push_few_tops.result.items
    c.split_at.ensures.back (rw at_end at c.loop-block.invariant.written) c.push_few_tops.ensures
