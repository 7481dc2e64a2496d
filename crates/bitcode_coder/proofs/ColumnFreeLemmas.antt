-- Counts of elements without columns add up, also where they are saturated.
use Rattle.std.proofs.Common.{◌≡◌, ℕ, ◌+◌, arith}
use Rattle.bitcode_coder.specs.ColumnFree.{saturated}

-- of two parts
pub saturated_sum : (a b c d : ℕ) → saturated a ≡ saturated b → saturated c ≡ saturated d → saturated (a + c) ≡ saturated (b + d)
saturated_sum a b c d first second = omega (arith, first, second)

-- of elements, and what is inside them
pub saturated_more : (own a b : ℕ) → saturated a ≡ saturated b → saturated (own + a) ≡ saturated (own + b)
saturated_more own a b same = omega (arith, same)
