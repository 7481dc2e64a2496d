use Rattle.std.proofs.Common.{◌+◌, refl, arith}
use Rattle.bitcode_columns.specs.DigitCounts.{digits_counted}
use Rattle.bitcode_columns.proofs.BitCountLemmas.{ones_in_front, one_byte_more}
use Rattle.bitcode_columns.proofs.pack.variants.counts.ones_of_each.Goals as goal

pub loop-byte-init : goal.loop-byte-init
unfolding digits_counted
loop-byte-init c = refl

pub overflow_add-ones : goal.overflow_add-ones
overflow_add-ones c =
    let packed = c.args.packed.now in
    let i = c.loop-byte.byte-index in
    omega (
      arith,
      c.loop-byte.invariant,
      one_byte_more i packed (omega arith) (c.known_bytes.ensures i 0 (omega arith)),
      ones_in_front (i + 1) packed c.known_bytes.ensures,
      c.requires,
    )

pub loop-byte-preserved : goal.loop-byte-preserved
loop-byte-preserved c =
    let packed = c.args.packed.now in
    let i = c.loop-byte.byte-index in
    omega (
      arith,
      c.loop-byte.invariant,
      one_byte_more i packed (omega arith) (c.known_bytes.ensures i 0 (omega arith)),
    )
