-- Four entries more.
use Rattle.std.proofs.Common.{ℕ, ◌*◌, ◌++◌, List, map, take, drop, refl, ap, ◌∙◌, arith}
use Rattle.std.specs.Prelude.{to_bits}
use Rattle.std.specs.Float.{Float, binary64}
use Rattle.std.proofs.lemmas.List.{map-append}
use Rattle.bitcode_memory.specs.Fast.{fast_items}
use Rattle.bitcode_float_columns.proofs.SplitLemmas.{four_more}
use Rattle.bitcode_floats.proofs.float64.push_all.Goals as goal

abbrev bits_of : List Float → List ℕ
bits_of floats = map (λ x. to_bits binary64 x) floats

pub loop-block-preserved : goal.loop-block-preserved
loop-block-preserved c =
    let was = c.loop-block.invariant in
    let all = c.args.floats.now in
    let four = take 4 (drop (4 * c.loop-block.block) all) in
    let so_far = fast_items c.loop-block.bits in
    record {
      pushed =
          four_more bits_of (λ xs ys. map-append (λ x. to_bits binary64 x) xs ys) all (fast_items c.args.bits) c.loop-block.block four so_far
          (fast_items c.push_bits-bits.result) refl was.pushed
          (c.push_bits-bits.ensures.written ∙ ap (λ xs. so_far ++ xs) c.bits_of_f64s.ensures);
      room = omega (arith, was.room, c.push_bits-bits.ensures.room);
    }
