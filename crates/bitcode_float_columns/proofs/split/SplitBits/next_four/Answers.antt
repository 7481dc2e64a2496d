-- Four floats.
use Rattle.std.proofs.Common.{◌≤◌, length, map, subst, ap, ap₂, ◌∙◌, arith}
use Rattle.std.specs.Prelude.{from_bits}
use Rattle.std.specs.Float.{binary32}
use Rattle.std.proofs.lemmas.List.{length-take}
use Rattle.bitcode_memory.specs.Fast.{slice_rest}
use Rattle.bitcode_float_columns.specs.declared.split.SplitBits.{SplitBits}
use Rattle.bitcode_float_columns.specs.Split.{split_rest, joined_bits}
use Rattle.bitcode_float_columns.proofs.SplitLemmas.{AreBytes, sizes_of_six, are_four, four_behind}
use Rattle.bitcode_float_columns.proofs.split.SplitBits.next_four.Goals as goal

sizes : (s : SplitBits) → 6 ≤ length (split_rest s) → (16 ≤ length (slice_rest s.lows)) × (4 ≤ length (slice_rest s.tops))
unfolding split_rest
sizes s six = sizes_of_six (slice_rest s.lows) (slice_rest s.tops) six

pub bounds-as_slice-0 : goal.bounds-as_slice-0
bounds-as_slice-0 c = omega (arith, ap length c.as_slice-3.ensures, (sizes c.args.self.now c.requires).0)

pub chunk_unchecked-tops-requires : goal.chunk_unchecked-tops-requires
chunk_unchecked-tops-requires c = (sizes c.args.self.now c.requires).1

pub bounds-tops-0 : goal.bounds-tops-0
bounds-tops-0 c =
    omega (arith, ap length c.chunk_unchecked-tops.ensures.taken, length-take 4 (slice_rest c.args.self.now.tops), (sizes c.args.self.now c.requires).1)

pub bounds-tops-1 : goal.bounds-tops-1
bounds-tops-1 c =
    omega (arith, ap length c.chunk_unchecked-tops.ensures.taken, length-take 4 (slice_rest c.args.self.now.tops), (sizes c.args.self.now c.requires).1)

pub bounds-tops-2 : goal.bounds-tops-2
bounds-tops-2 c =
    omega (arith, ap length c.chunk_unchecked-tops.ensures.taken, length-take 4 (slice_rest c.args.self.now.tops), (sizes c.args.self.now c.requires).1)

pub bounds-tops-3 : goal.bounds-tops-3
bounds-tops-3 c =
    omega (arith, ap length c.chunk_unchecked-tops.ensures.taken, length-take 4 (slice_rest c.args.self.now.tops), (sizes c.args.self.now c.requires).1)

pub advance-requires : goal.advance-requires
advance-requires c = omega (arith, (sizes c.args.self.now c.requires).0)

pub returns-clause-floats : goal.returns-clause-floats
unfolding split_rest
returns-clause-floats c =
    let lows = slice_rest c.args.self.now.lows in
    let tops = slice_rest c.args.self.now.tops in
    let below = subst AreBytes c.as_slice.ensures c.known_bytes.ensures in
    let tops_below = subst AreBytes c.as_slice-2.ensures c.known_bytes-2.ensures in
    c.f32s_with_bits.ensures
    ∙ ap (map (λ b. from_bits binary32 b)) (are_four c.as_slice-3.result.now c.chunk_unchecked-tops.result.now lows tops c.requires below tops_below
    c.as_slice-3.ensures c.chunk_unchecked-tops.ensures.taken)

pub returns-clause-rest : goal.returns-clause-rest
unfolding split_rest
returns-clause-rest c =
    let lows = slice_rest c.args.self.now.lows in
    let tops = slice_rest c.args.self.now.tops in
    ap₂ joined_bits c.advance.ensures c.chunk_unchecked-tops.ensures.rest ∙ four_behind lows tops c.requires
