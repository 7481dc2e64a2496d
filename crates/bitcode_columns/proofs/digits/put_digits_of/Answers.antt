use Rattle.std.proofs.Common.{◌≡◌, length, map, arith, sym, ap, ◌∙◌}
use Rattle.std.specs.List.{range_with_len}
use Rattle.std.proofs.lemmas.List.{take_all}
use Rattle.bitcode_columns.specs.Digits.{digit}
use Rattle.bitcode_columns.proofs.PackingLemmas.{div-pow_more, digits_put}
use Rattle.bitcode_columns.proofs.digits.put_digits_of.Goals as goal

pub loop-place-preserved : goal.loop-place-preserved
loop-place-preserved g c =
    let so_far = c.loop-place.invariant in
    record {
      rest = rw (so_far.rest, div-pow_more c.args.byte g.row.RADIX c.loop-place.place);
      items = digits_put g.T.Digit.digit_of g.row.RADIX c.args.byte c.loop-place.place c.loop-place.rest c.loop-place.entries c.from_digit.result
          (omega arith) so_far.items so_far.rest c.from_digit.ensures;
    }

pub returns : goal.returns
returns g c =
    let number = g.T.Digit.digit_of in
    let of_byte = digit g.row.RADIX c.args.byte in
    let at_end : c.loop-place.place ≡ length c.args.entries.now = omega arith in
    ap (map number) (sym (take_all c.loop-place.place c.loop-place.entries (omega arith)))
    ∙ c.loop-place.invariant.items ∙ ap (λ n. map of_byte (range_with_len 0 n)) at_end
