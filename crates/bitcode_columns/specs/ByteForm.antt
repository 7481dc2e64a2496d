-- What the header of a byte column with more than two entries says about the entries after it.
use Rattle.std.specs.Prelude.{◌≡◌, ℕ, ◌*◌, ◌%◌, ◌≤◌, List, ◌∷◌, ◌++◌, length}
use Rattle.bitcode_columns.specs.declared.pack.Base.{Base}
use Rattle.bitcode_memory.specs.LittleEndian.{little_endian}
use Rattle.bitcode_columns.specs.Tagged.{level_of_tag}
use Rattle.bitcode_columns.specs.ByteColumn.{base_at_level, highest_byte_tag}

-- A tag, and the least entry if the tag is odd: the base of the digits that follow, and what each entry adds to its
-- digit (0 without a least entry).
pub record TellsForm (input : List ℕ) (base : Base) (least : ℕ) (rest : List ℕ) : Type 0 where
  pub tag : ℕ
  pub least_bytes : List ℕ
  pub known : tag ≤ highest_byte_tag
  pub least_size : length least_bytes ≡ 1 * (tag % 2)
  pub whole : input ≡ tag ∷ (least_bytes ++ rest)
  pub base_is : base ≡ base_at_level (level_of_tag tag)
  pub least_is : least ≡ little_endian least_bytes
