use Rattle.std.proofs.Common.{arith}
use Rattle.bitcode_columns.proofs.BitCountLemmas.{bits_counted, two_counts}
use Rattle.bitcode_columns.proofs.pack.variants.counts.counts_of_bits.Goals as goal

pub overflow_sub-counts : goal.overflow_sub-counts
overflow_sub-counts g c =
    let packed = c.args.packed.now in
    omega (arith, c.ones_of-ones.ensures, bits_counted packed c.known_bytes.ensures)

pub returns : goal.returns
returns g c =
    let packed = c.args.packed.now in
    two_counts g.row.N packed c.ones_of-ones.result c.requires.two c.known_bytes.ensures c.ones_of-ones.ensures
