use Rattle.std.proofs.Common.{◌≡◌, map, ap, ◌∙◌, rules, arith}
use Rattle.std.specs.Int.{div_ceil}
use Rattle.std.proofs.lemmas.Grind.{common_steps}
use Rattle.std.proofs.lemmas.List.{length-append, length-map}
use Rattle.std.proofs.lemmas.Result.{err_from_is_err_and}
use Rattle.bitcode_columns.specs.declared.pack.Base.TheVariants.{Whole}
use Rattle.bitcode_columns.specs.Digits.{digits_in_byte, digits_text}
use Rattle.bitcode_columns.proofs.BytePackingLemmas.{digits_text-whole_from}
use Rattle.bitcode_columns.proofs.DigitLemmas.{size-digits_text}
use Rattle.bitcode_columns.proofs.digits.pack_digits.Goals as goal

pub returns-then-eq-clause-written : goal.returns-then-eq-clause-written
returns-then-eq-clause-written g c =
    let is : c.args.base ≡ Whole = search rules in
    let digits = map g.T.Digit.digit_of c.args.entries.now in
    let whole : digits_text c.args.base digits ≡ digits = ap (λ base. digits_text base digits) is ∙ digits_text-whole_from digits in
    rw whole (first_of (search rules, grind (arith, common_steps)))

pub returns-in_err-reserve-clause-full : goal.returns-in_err-reserve-clause-full
returns-in_err-reserve-clause-full g c =
    let digits = map g.T.Digit.digit_of c.args.entries.now in
    let refused = err_from_is_err_and c.from_residual.result c.from_residual.ensures.1 in
    let packed = rw c.digits_in_byte.ensures at c.div_ceil-packed.ensures in
    let size = size-digits_text c.args.base digits ∙ ap (λ n. div_ceil n (digits_in_byte c.args.base)) (length-map c.args.entries.now g.T.Digit.digit_of) in
    let text = length-append c.args.front.now (digits_text c.args.base digits) in
    rw refused.1 (omega (arith, packed, size, text, c.in_err-reserve.ensures.full, c.saturating_add.ensures))
