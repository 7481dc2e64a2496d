-- A bool column is digits in base 2, without a tag: 0 is false and 1 is true.
use Rattle.std.specs.Prelude.{ℕ, Bool, List, map}
use Rattle.bitcode_memory.specs.Ints.{bool_digit}
use Rattle.bitcode_columns.specs.declared.pack.Base.TheVariants.{Two}
use Rattle.bitcode_columns.specs.Digits.{SpellsDigits, digits_text}

abbrev pub SpellsBools : List ℕ → List Bool → Type 0
SpellsBools bytes entries = SpellsDigits Two bytes (map bool_digit entries)

unfoldable pub bool_text : List Bool → List ℕ
bool_text entries = digits_text Two (map bool_digit entries)
