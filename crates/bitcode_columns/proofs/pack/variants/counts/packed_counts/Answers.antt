use Rattle.std.proofs.Common.{◌≡◌, ℕ, ◌+◌, ◌-◌, ◌*◌, ◌/◌, ◌<◌, cond, eqb, length, take, drop, get_or, refl, ap, ◌∙◌, rules, arith}
use Rattle.std.proofs.lemmas.Bool.Decides.{nat_tests}
use Rattle.std.proofs.lemmas.List.Sums.{count_by-le-length}
use Rattle.std.proofs.lemmas.Grind.{common_steps}
use Rattle.std.proofs.lemmas.List.{take_all, take_rest}
use Rattle.bitcode_columns.specs.DigitCounts.{digits_counted}
use Rattle.bitcode_columns.specs.Histogram.{count_of}
use Rattle.bitcode_columns.proofs.DigitCountLemmas.{whole_few, whole_digits, whole_and_rest, front_counts, added, added_size, not_added}
use Rattle.bitcode_columns.proofs.TableLemmas.{count_of_more}
use Rattle.bitcode_columns.proofs.pack.variants.counts.packed_counts.Goals as goal
use Rattle.bitcode_columns.proofs.pack.variants.counts.packed_counts.Goals.{then-value, else-value}

pub counts_of_whole-counts-requires : goal.counts_of_whole-counts-requires
counts_of_whole-counts-requires g c =
    let in_byte = c.digits_in_byte-in_byte in
    let entries = c.args.entries.now in (
      first_of (search rules, omega arith, grind (arith, common_steps)),
      (
        λ value below.
            omega (
              arith,
              whole_few c.args.base value c.args.packed.now entries in_byte.result (length entries / in_byte.result) c.requires in_byte.ensures refl,
            ),
        omega (
          arith,
          whole_digits c.args.base 0 c.args.packed.now entries in_byte.result (length entries / in_byte.result) c.requires in_byte.ensures refl,
        ),
      ),
    )

pub overflow_add-counts : goal.overflow_add-counts
overflow_add-counts g c =
    let in_byte = c.digits_in_byte-in_byte in
    let entries = c.args.entries.now in
    let whole = length entries / in_byte.result in
    let start = whole * in_byte.result in
    let behind = take (length entries - start) (drop start entries) in
    let i = c.loop-entry.entry-index in
    let value = get_or behind i 0 in
    let below : value < g.row.N = omega arith in
    let one : ◌≡◌ {A = ℕ} (cond (eqb value value) 1 0) 1 = grind (arith, nat_tests) in
    let so_far : get_or c.loop-entry.counts value 0 ≡ get_or c.counts_of_whole-counts.result value 0 + count_of value (take i behind) =
    c.loop-entry.invariant.each value below in
    omega (
      arith,
      one,
      so_far,
      c.counts_of_whole-counts.ensures value below,
      count_of_more value behind i 0 (omega arith),
      front_counts value (i + 1) behind,
      ap (count_of value) (take_rest entries start),
      whole_and_rest c.args.base value c.args.packed.now entries in_byte.result whole c.requires in_byte.ensures refl,
      count_by-le-length (λ entry. eqb entry value) entries,
    )

pub loop-entry-preserved : goal.loop-entry-preserved
loop-entry-preserved g c =
    let in_byte = c.digits_in_byte-in_byte in
    let entries = c.args.entries.now in
    let whole = length entries / in_byte.result in
    let start = whole * in_byte.result in
    let behind = take (length entries - start) (drop start entries) in
    let i = c.loop-entry.entry-index in
    let entry = get_or behind i 0 in
    let counts = c.loop-entry.counts in
    let was = c.loop-entry.invariant in
    record {
      size = elim c.if-value.branch [
        | then-value w ↦ rw w.counts-is (added_size counts entry _ g.row.N was.size)
        | else-value w ↦ rw w.counts-is was.size
      ];
      each = λ value below.
          let so_far : get_or counts value 0 ≡ get_or c.counts_of_whole-counts.result value 0 + count_of value (take i behind) = was.each value below in
          let more = count_of_more value behind i 0 (omega arith) in
          elim c.if-value.branch [
            | then-value w ↦ rw w.counts-is (omega (arith, so_far, more, added counts entry value 1 (omega (arith, was.size))))
            | else-value w ↦ rw w.counts-is (omega (arith, so_far, more, not_added g.row.N entry value 1 (omega arith) below))
          ];
    }

pub returns : goal.returns
returns g c = record {
  size = c.loop-entry.invariant.size;
  each = λ value below.
      let in_byte = c.digits_in_byte-in_byte in
      let entries = c.args.entries.now in
      let whole = length entries / in_byte.result in
      let start = whole * in_byte.result in
      let behind = take (length entries - start) (drop start entries) in
      c.loop-entry.invariant.each value below
      ∙ ap (λ n. n + count_of value (take c.loop-entry.entry-index behind)) (c.counts_of_whole-counts.ensures value below)
      ∙ ap (λ xs. digits_counted c.args.base value (take whole c.args.packed.now) + count_of value xs) (take_all c.loop-entry.entry-index behind (omega arith) ∙ take_rest entries start)
      ∙ whole_and_rest c.args.base value c.args.packed.now entries in_byte.result whole c.requires in_byte.ensures refl;
}
