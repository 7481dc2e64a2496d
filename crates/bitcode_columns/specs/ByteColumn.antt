-- A byte column. At most two entries are written without a tag. More of them follow a tag, as digits in the base of the
-- tag's level. Level 0 is base 256: the entries, raw.
use Rattle.std.specs.Prelude.{◌≡◌, ℕ, ◌≤◌, ◌<◌, ℤ, List, length, map, nat_lt, nat_le, ◌⊎◌, if◌then◌else◌}
use Rattle.bitcode_columns.specs.declared.pack.Base.{Base}
use Rattle.bitcode_columns.specs.declared.pack.Base.TheVariants.{Whole, Sixteen, Six, Four, Three, Two}
use Rattle.bitcode_columns.specs.Digits.{SpellsDigits, digits_text, base_for}
use Rattle.bitcode_memory.specs.Ints.{residue}
use Rattle.bitcode_columns.specs.Tagged.{SpellsTagged, tagged_text}

abbrev pub level_of_base : Base → ℕ
level_of_base Whole = 0
level_of_base Sixteen = 1
level_of_base Six = 2
level_of_base Four = 3
level_of_base Three = 4
level_of_base Two = 5

abbrev pub base_at_level : ℕ → Base
base_at_level level =
    if nat_lt level 1 then Whole else if nat_lt level 2 then Sixteen else if nat_lt level 3 then Six
    else if nat_lt level 4 then Four else if nat_lt level 5 then Three else Two

abbrev pub highest_byte_tag : ℕ
highest_byte_tag = 10

abbrev pub SpellsAtByteLevel : ℕ → List ℕ → List ℕ → Type 0
SpellsAtByteLevel level = SpellsDigits (base_at_level level)

-- Accepted: the entries from 0 to 255, those of a signed column as residues.
abbrev pub SpellsBytes : List ℕ → List ℕ → Type 0
SpellsBytes bytes entries =
    ((length entries ≤ 2) × (bytes ≡ entries))
    ⊎ ((2 < length entries) × SpellsTagged 1 highest_byte_tag SpellsAtByteLevel bytes entries)

abbrev pub byte_level_for : ℕ → ℕ
byte_level_for number = level_of_base (base_for number)

abbrev pub text_at_byte_level : ℕ → List ℕ → List ℕ
text_at_byte_level level = digits_text (base_at_level level)

-- Written: the entries as numbers, signed or not.
unfoldable pub byte_text : List ℤ → List ℕ
byte_text entries =
    if nat_le (length entries) 2 then map (residue 1) entries else tagged_text 1 byte_level_for text_at_byte_level entries
