-- A column of variants below n is digits in the base for n - 1, without a tag. For n = 17 and more that base is 256:
-- the entries, raw.
use Rattle.std.specs.Prelude.{ℕ, ◌-◌, ◌<◌, List, All}
use Rattle.bitcode_columns.specs.Digits.{SpellsDigits, digits_text, base_for}

pub record SpellsVariants (variants : ℕ) (bytes entries : List ℕ) : Type 0 where
  pub digits : SpellsDigits (base_for (variants - 1)) bytes entries
  pub known : All (λ entry. entry < variants) entries

unfoldable pub variant_text : (variants : ℕ) → List ℕ → List ℕ
variant_text variants entries = digits_text (base_for (variants - 1)) entries
