use Rattle.std.proofs.Common.{◌<◌, map, arith}
use Rattle.std.proofs.lemmas.List.{length-map}
use Rattle.std.proofs.lemmas.List.Elements.{All-map}
use Rattle.bitcode_columns.specs.Digits.{radix}
use Rattle.bitcode_columns.proofs.PackingLemmas.{number_with_digits_is_byte}
use Rattle.bitcode_columns.proofs.digits.whole_byte.Goals as goal

pub number_with_digits-requires : goal.number_with_digits-requires
number_with_digits-requires g c =
    let number = g.T.Digit.digit_of in
    let digits = c.args.digits.now in
    number_with_digits_is_byte c.args.base (map number digits) (omega (arith, length-map digits number, c.requires.size))
    (All-map (λ d. d < radix c.args.base) number digits c.requires.digits)
