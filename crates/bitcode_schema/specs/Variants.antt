-- Columns of variants, before their entries are compared with the number of variants.
use Rattle.std.specs.Prelude.{ℕ, ◌-◌, List}
use Rattle.bitcode_columns.specs.Digits.{SpellsDigits, base_for}
use Rattle.bitcode_columns.specs.Reading.{Reads}

-- digits in the base for so many variants
abbrev pub ReadsDigits : (variants k : ℕ) → List ℕ → List ℕ → List ℕ → Type 0
ReadsDigits variants k old entries new = Reads (SpellsDigits (base_for (variants - 1))) k old entries new
