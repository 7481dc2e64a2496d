-- Four floats more.
use Rattle.std.proofs.Common.{ℕ, ◌+◌, ◌*◌, ◌++◌, List, length, map, take, drop, refl, ap, ◌∙◌, arith}
use Rattle.std.specs.Prelude.{from_bits}
use Rattle.std.specs.Float.{Float, binary32}
use Rattle.std.proofs.lemmas.List.{map-append, length-drop, drop-drop}
use Rattle.bitcode_float_columns.specs.Split.{split_rest}
use Rattle.bitcode_float_columns.proofs.SplitLemmas.{four_more}
use Rattle.bitcode_float_columns.proofs.split.SplitBits.push_fours.Goals as goal

abbrev floats_of : List ℕ → List Float
floats_of bits = map (λ b. from_bits binary32 b) bits

pub next_four-requires : goal.next_four-requires
next_four-requires c =
    let was = c.loop-block.invariant in
    omega (arith, ap length was.left, length-drop (4 * c.loop-block._block) (split_rest c.args.self.now))

pub loop-block-preserved : goal.loop-block-preserved
loop-block-preserved c =
    let was = c.loop-block.invariant in
    let i = c.loop-block._block in
    let all = split_rest c.args.self.now in
    let four = take 4 (drop (4 * i) all) in
    let so_far = c.loop-block.floats.items in
    record {
      made =
          four_more floats_of (λ xs ys. map-append (λ b. from_bits binary32 b) xs ys) all c.args.floats.items i four so_far c.push_four.new.out.items refl was.made
          (c.push_four.ensures.written ∙ ap (λ xs. so_far ++ xs) (c.next_four.ensures.floats ∙ ap (λ r. floats_of (take 4 r)) was.left));
      left = c.next_four.ensures.rest ∙ ap (drop 4) was.left ∙ drop-drop 4 (4 * i) all ∙ ap (λ n. drop n all) (omega arith);
      len = omega (arith, c.push_four.ensures.len, was.len);
      capacity = c.push_four.ensures.capacity ∙ was.capacity;
    }
