-- The first bits, and the others.
use Rattle.std.proofs.Common.{◌<◌, ◌≤◌, length, ap, arith}
use Rattle.std.proofs.lemmas.List.{length-take}
use Rattle.bitcode_memory.specs.Fast.{slice_rest}
use Rattle.bitcode_float_columns.specs.declared.split.SplitBits.{SplitBits}
use Rattle.bitcode_float_columns.specs.Split.{split_rest}
use Rattle.bitcode_float_columns.proofs.SplitLemmas.{front_of, next_bits}
use Rattle.bitcode_float_columns.proofs.split.SplitBits.next_unchecked.Goals as goal

three_lows : (s : SplitBits) → 0 < length (split_rest s) → 3 ≤ length (slice_rest s.lows)
unfolding split_rest
three_lows s some = omega (arith, ap length (front_of (slice_rest s.lows) (slice_rest s.tops) some).of_lows)

pub chunk_unchecked-low-requires : goal.chunk_unchecked-low-requires
chunk_unchecked-low-requires c = three_lows c.args.self.now c.requires

pub next_unchecked-top-requires : goal.next_unchecked-top-requires
unfolding split_rest
next_unchecked-top-requires c =
    omega (arith, ap length (front_of (slice_rest c.args.self.now.lows) (slice_rest c.args.self.now.tops) c.requires).of_tops)

pub bounds-low-0 : goal.bounds-low-0
bounds-low-0 c =
    omega (arith, ap length c.chunk_unchecked-low.ensures.taken, length-take 3 (slice_rest c.args.self.now.lows), three_lows c.args.self.now c.requires)

pub bounds-low-1 : goal.bounds-low-1
bounds-low-1 c =
    omega (arith, ap length c.chunk_unchecked-low.ensures.taken, length-take 3 (slice_rest c.args.self.now.lows), three_lows c.args.self.now c.requires)

pub bounds-low-2 : goal.bounds-low-2
bounds-low-2 c =
    omega (arith, ap length c.chunk_unchecked-low.ensures.taken, length-take 3 (slice_rest c.args.self.now.lows), three_lows c.args.self.now c.requires)

pub returns : goal.returns
unfolding split_rest
returns c =
    let low = c.chunk_unchecked-low.result.now in
    next_bits (slice_rest c.args.self.now.lows) (slice_rest c.args.self.now.tops) low (slice_rest c.chunk_unchecked-low.new.self)
    (slice_rest c.next_unchecked-top.new.self) c.next_unchecked-top.result c.from_le_bytes.result (three_lows c.args.self.now c.requires)
    c.chunk_unchecked-low.ensures.taken c.chunk_unchecked-low.ensures.rest c.next_unchecked-top.ensures (omega (arith, c.from_le_bytes.ensures))
