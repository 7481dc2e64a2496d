use Rattle.std.proofs.Common.{◌≡◌, ◌∙◌, ap, true, false, length, refl, rules, arith}
use Rattle.std.proofs.lemmas.Grind.{common_steps}
use Rattle.bitcode_columns.specs.Histogram.{AreCounts}
use Rattle.bitcode_columns.proofs.HistogramLemmas.{sum-counts}
use Rattle.bitcode_columns.proofs.VariantColumnLemmas.{are_variants, known_variants, names_unknown, entries_are_digits, packed_spells}
use Rattle.bitcode_columns.proofs.pack.variants.unpack_bytes_less_than.Goals as goal

pub are_variants-requires : goal.are_variants-requires
are_variants-requires g c =
    let read = c.in_ok-read_digits.ensures.read in
    rw (c.as_slice-entries.ensures, c.base_of_variants-base.ensures) (entries_are_digits _ _ _ read.spelled)

pub packed_counts-requires : goal.packed_counts-requires
packed_counts-requires g c =
    let read = c.in_ok-read_digits.ensures.read in
    (first_of (search rules, omega arith, grind (arith, common_steps)), rw (c.as_slice-entries.ensures, c.base_of_variants-base.ensures) (packed_spells _ _ _ _ _ read _ refl))

pub returns-then-not-are_variants-clause-refused : goal.returns-then-not-are_variants-clause-refused
returns-then-not-are_variants-clause-refused g c =
    let unknown : are_variants g.row.N c.as_slice-entries.result.now ≡ false = search rules in
    rw c.err.ensures
    (names_unknown g.row.N c.args.count _ _ _ c.in_ok-read_digits.ensures.read _ refl (rw c.as_slice-entries.ensures at unknown))

pub returns-clause-total : goal.returns-clause-total
returns-clause-total g c same =
    let all : are_variants g.row.N c.as_slice-entries.result.now ≡ true = search rules in
    let entries = c.as_slice-entries.result.now in
    let counts : AreCounts g.row.N entries c.packed_counts.result = rw same at c.packed_counts.ensures in
    sum-counts g.row.N entries c.packed_counts.result counts (known_variants g.row.N entries all)
    ∙ ap length c.as_slice-entries.ensures
    ∙ c.in_ok-read_digits.ensures.read.size
