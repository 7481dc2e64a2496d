-- A text column is a length column, followed by the concatenated bytes of all texts. Each single text is UTF-8.
use Rattle.std.specs.Prelude.{◌≡◌, ℕ, Option, List, ◌++◌, length, map, All, IsUtf8}
use Rattle.std.specs.List.{flat_map}
use Rattle.bitcode_coder.specs.LengthColumn.{SpellsLengths, length_bytes}

-- Accepted.
pub record SpellsTexts (limit : Option ℕ) (piece : List ℕ) (texts : List (List ℕ)) : Type 0 where
  pub lengths_piece : List ℕ
  pub whole : piece ≡ lengths_piece ++ flat_map (λ text. text) texts
  pub lengths_spelled : SpellsLengths limit lengths_piece (map (λ text. length text) texts)
  pub utf8 : All IsUtf8 texts

-- Written.
unfoldable pub texts_bytes : List (List ℕ) → List ℕ
texts_bytes texts = length_bytes (map (λ text. length text) texts) ++ flat_map (λ text. text) texts
