use Rattle.std.proofs.Common.{◌≡◌, ◌*◌, ◌^◌, arith, ap₂}
use Rattle.bitcode_columns.specs.Digits.{radix}
use Rattle.bitcode_columns.proofs.StrictLemmas.{power_fits}
use Rattle.bitcode_columns.proofs.strict.limit_of.Goals as goal

pub overflow_mul-limit : goal.overflow_mul-limit
overflow_mul-limit c =
    let same : c.loop-digit.limit * c.radix-radix.result ≡ radix c.args.base ^ c.loop-digit._digit * radix c.args.base
    = ap₂ (λ a b. a * b) c.loop-digit.invariant c.radix-radix.ensures in
    omega (arith, same, power_fits c.args.base c.loop-digit._digit (omega arith))
