-- Variants of several numbers have one base.
use Rattle.std.proofs.Common.{◌≡◌, ℕ, ◌-◌, ◌<◌, ◌≤◌, List, ap, arith}
use Rattle.bitcode_columns.specs.Digits.{base_for, digits_text}
use Rattle.bitcode_columns.specs.VariantColumn.{variant_text}

pub same_base : (m n : ℕ) (variants : List ℕ) → base_for (m - 1) ≡ base_for (n - 1) → variant_text m variants ≡ variant_text n variants
unfolding variant_text
same_base m n variants same = ap (λ b. digits_text b variants) same

pub five_or_six : (n : ℕ) → 4 < n → n ≤ 6 → base_for 5 ≡ base_for (n - 1)
five_or_six n least most = grind (arith, least, most)

pub up_to_sixteen : (n : ℕ) → 6 < n → n ≤ 16 → base_for 15 ≡ base_for (n - 1)
up_to_sixteen n least most = grind (arith, least, most)

pub over_sixteen : (n : ℕ) → 16 < n → n ≤ 256 → base_for 255 ≡ base_for (n - 1)
over_sixteen n least most = grind (arith, least, most)
