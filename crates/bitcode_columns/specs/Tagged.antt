-- A column may begin with a tag byte, which says how its entries are written. Level 0 keeps them whole, and each higher
-- level makes them smaller numbers. The tag of a level is twice the level, or one less if every entry is the sum of its
-- number and a least entry, which follows the tag.
use Rattle.std.specs.Prelude.{◌≡◌, ℕ, ◌+◌, ◌-◌, ◌*◌, ◌/◌, ◌%◌, ◌^◌, ◌≤◌, Bool, true, false, ℤ, pos, ◌-ℤ◌, int_lt, unsigned_abs, List, ◌∷◌, ◌++◌, length, map, nat_lt, ◌&&◌, if◌then◌else◌}
use Rattle.bitcode_memory.specs.LittleEndian.{little_endian, number_bytes}
use Rattle.bitcode_memory.specs.Ints.{residue, least, greatest}

abbrev pub level_of_tag : ℕ → ℕ
level_of_tag tag = (tag + 1) / 2

-- the tag of a level, shifted by a least entry (true) or not
abbrev pub tag_of : ℕ → Bool → ℕ
tag_of level true = 2 * level - 1
tag_of level false = 2 * level

-- Accepted, for entries of a width: a tag that is not too high, the least entry if the tag is odd, and narrow numbers
-- according to the level. An entry is the sum of its narrow number and the least entry.
pub record SpellsTagged (width highest : ℕ) (SpellsNarrow : ℕ → List ℕ → List ℕ → Type 0) (bytes entries : List ℕ) : Type 0 where
  pub tag : ℕ
  pub least_bytes : List ℕ
  pub body : List ℕ
  pub narrow : List ℕ
  pub known : tag ≤ highest
  pub least_size : length least_bytes ≡ width * (tag % 2)
  pub whole : bytes ≡ tag ∷ (least_bytes ++ body)
  pub narrowed : SpellsNarrow (level_of_tag tag) body narrow
  pub widened : entries ≡ map (λ n. (n + little_endian least_bytes) % 256 ^ width) narrow

-- the level for the unshifted entries: negative ones need the whole width
abbrev pub plain_level : (ℕ → ℕ) → List ℤ → ℕ
plain_level level_for entries = if int_lt (least entries) (pos 0) then 0 else level_for (unsigned_abs (greatest entries))

-- the level for their differences from the least entry
abbrev pub shifted_level : (ℕ → ℕ) → List ℤ → ℕ
shifted_level level_for entries = level_for (unsigned_abs (greatest entries -ℤ least entries))

-- they are shifted exactly if that makes them smaller and there are more than five
abbrev pub is_shifted : (ℕ → ℕ) → List ℤ → Bool
is_shifted level_for entries = nat_lt 5 (length entries) && nat_lt (plain_level level_for entries) (shifted_level level_for entries)

abbrev pub shifted_text : (width : ℕ) (level_for : ℕ → ℕ) (narrow_text : ℕ → List ℕ → List ℕ) → List ℤ → List ℕ
shifted_text width level_for narrow_text entries =
    tag_of (shifted_level level_for entries) true
    ∷ (number_bytes width (residue width (least entries))
    ++ narrow_text (shifted_level level_for entries) (map (λ e. unsigned_abs (e -ℤ least entries)) entries))

abbrev pub plain_text : (width : ℕ) (level_for : ℕ → ℕ) (narrow_text : ℕ → List ℕ → List ℕ) → List ℤ → List ℕ
plain_text width level_for narrow_text entries =
    tag_of (plain_level level_for entries) false ∷ narrow_text (plain_level level_for entries) (map (residue width) entries)

-- Written. `level_for` is the highest level that can hold a number, and `narrow_text` the text of numbers at a level.
unfoldable pub tagged_text : (width : ℕ) (level_for : ℕ → ℕ) (narrow_text : ℕ → List ℕ → List ℕ) → List ℤ → List ℕ
tagged_text width level_for narrow_text entries =
    if is_shifted level_for entries then shifted_text width level_for narrow_text entries
    else plain_text width level_for narrow_text entries
