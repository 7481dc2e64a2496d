use Rattle.std.proofs.Common.{◌≡◌, ◌+◌, ◌*◌, ◌/◌, ◌%◌, ◌^◌, ◌<◌, ◌≤◌, get_or, ap, ◌∙◌, arith}
use Rattle.bitcode_columns.specs.Digits.{radix, digits_in_byte}
use Rattle.bitcode_columns.specs.Histogram.{count_of}
use Rattle.bitcode_columns.proofs.PackingLemmas.{div-pow_more}
use Rattle.bitcode_columns.proofs.DigitCountLemmas.{times_fit, times_more, added, added_size, not_added, all_places}
use Rattle.bitcode_columns.proofs.pack.variants.counts.count_digits.Goals as goal
use Rattle.bitcode_columns.proofs.pack.variants.counts.count_digits.Goals.{then-digit, else-digit}

pub loop-place-preserved : goal.loop-place-preserved
loop-place-preserved g c =
    let base = c.args.base in
    let byte = c.args.byte in
    let times = c.args.times in
    let place = c.loop-place._place in
    let was = c.loop-place.invariant in
    let digit = c.loop-place.rest % c.radix-radix.result in
    let is : digit ≡ byte / radix base ^ place % radix base = rw (was.rest, c.radix-radix.ensures) in
    record {
      size = elim c.if-digit.branch [
        | then-digit w ↦ rw w.counts-is (added_size c.loop-place.counts digit _ g.row.N was.size)
        | else-digit w ↦ rw w.counts-is was.size
      ];
      rest = rw (c.radix-radix.ensures, was.rest, div-pow_more byte (radix base) place);
      each = λ value below.
          let more = times_more base byte place digit times value (omega arith) is in
          elim c.if-digit.branch [
            | then-digit w ↦ rw w.counts-is (omega (arith, more, was.each value below, added c.loop-place.counts digit value times (omega (arith, was.size))))
            | else-digit w ↦ rw w.counts-is (omega (arith, more, was.each value below, not_added g.row.N digit value times (omega arith) below))
          ];
    }

pub overflow_add-counts : goal.overflow_add-counts
overflow_add-counts g c =
    let base = c.args.base in
    let place = c.loop-place._place in
    let digit = c.loop-place.rest % c.radix-radix.result in
    let is : digit ≡ c.args.byte / radix base ^ place % radix base = rw (c.loop-place.invariant.rest, c.radix-radix.ensures) in
    let below : digit < g.row.N = omega arith in
    omega (
      arith,
      c.loop-place.invariant.each digit below,
      c.requires digit below,
      times_fit base c.args.byte place digit c.args.times (omega arith) is,
    )

pub returns : goal.returns
returns g c = λ value below.
    let base = c.args.base in
    let byte = c.args.byte in
    let place = c.loop-place._place in
    let all : digits_in_byte base ≤ place = omega (arith, c.digits_in_byte-place-end.ensures) in
    c.loop-place.invariant.each value below
    ∙ ap (λ digits. get_or c.args.counts.now value 0 + c.args.times * count_of value digits) (all_places base byte place all)
