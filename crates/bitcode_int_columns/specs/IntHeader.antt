-- What the header of a tagged column says about the narrow numbers after it.
use Rattle.std.specs.Prelude.{◌≡◌, ℕ, ◌+◌, ◌*◌, ◌%◌, ◌^◌, ◌≤◌, List, ◌∷◌, ◌++◌, length, map}
use Rattle.bitcode_memory.specs.LittleEndian.{little_endian}
use Rattle.bitcode_columns.specs.Reading.{Reads}
use Rattle.bitcode_columns.specs.Tagged.{level_of_tag}

-- A tag, and the least entry if the tag is odd: the level of the numbers that follow, and what each entry adds to its
-- number (0 without a least entry).
pub record TellsLevel (width highest : ℕ) (input : List ℕ) (level least : ℕ) (rest : List ℕ) : Type 0 where
  pub tag : ℕ
  pub least_bytes : List ℕ
  pub known : tag ≤ highest
  pub least_size : length least_bytes ≡ width * (tag % 2)
  pub whole : input ≡ tag ∷ (least_bytes ++ rest)
  pub level_is : level ≡ level_of_tag tag
  pub least_is : least ≡ little_endian least_bytes

-- a prefix of the old input spells narrow numbers, and each entry is the sum of its number and the least entry
pub record ReadsWidened (width least : ℕ) (SpellsNumbers : List ℕ → List ℕ → Type 0) (count : ℕ) (old entries new : List ℕ) : Type 0 where
  pub numbers : List ℕ
  pub read : Reads SpellsNumbers count old numbers new
  pub widened : entries ≡ map (λ n. (n + least) % 256 ^ width) numbers
