use Rattle.std.proofs.Common.{◌≡◌, ◌+◌, ◌-◌, ◌*◌, ◌<◌, map, drop, arith}
use Rattle.bitcode_columns.specs.Digits.{radix, number_with_digits}
use Rattle.bitcode_columns.proofs.PackingLemmas.{number-drop_le, number-drop_less}
use Rattle.bitcode_columns.proofs.digits.number_with_digits.Given.{Over}
use Rattle.bitcode_columns.proofs.digits.number_with_digits.Goals as goal
use Rattle.bitcode_columns.proofs.digits.number_with_digits.Goals.{After-from}

next : (g : Over) (c : After-from g)
    → c.from.result + c.radix-radix.result * c.loop-place.number ≡ number_with_digits (radix c.args.base) (drop (c.loop-place.place - 1) (map g.T.Digit.digit_of c.args.digits.now))
next g c =
    let step = number-drop_less c.args.base g.T.Digit.digit_of c.args.digits.now c.loop-place.place c.index-digits-place.result
    (omega arith) (omega arith) c.index-digits-place.is in
    cc

below : (g : Over) (c : After-from g) → c.from.result + c.radix-radix.result * c.loop-place.number < 256
below g c = omega (arith, next g c, number-drop_le c.args.base (map g.T.Digit.digit_of c.args.digits.now) (c.loop-place.place - 1))

pub overflow_mul-number : goal.overflow_mul-number
overflow_mul-number g c = omega (arith, below g c)

pub overflow_add-number : goal.overflow_add-number
overflow_add-number g c = omega (arith, below g c)

pub loop-place-preserved : goal.loop-place-preserved
loop-place-preserved g c = next g c

pub overflow_cast-result : goal.overflow_cast-result
overflow_cast-result g c = omega (arith, number-drop_le c.args.base (map g.T.Digit.digit_of c.args.digits.now) c.loop-place.place, c.loop-place.invariant)
