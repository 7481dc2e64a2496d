-- A column of integers with a width of 1, 2, 4, 8 or 16 bytes. Width 1 is a byte column. An empty column has no bytes,
-- and one entry of 2 bytes is written without a tag. Everything else follows a tag. Each level halves the width of the
-- numbers, and numbers of one byte form an unsigned byte column of their own.
use Rattle.std.specs.Prelude.{ℕ, ◌-◌, ◌*◌, ◌/◌, ◌^◌, ℤ, pos, List, length, map, nat_lt, MatchBool, ◌==◌, ◌||◌, ◌&&◌, if◌then◌else◌}
use Rattle.bitcode_memory.specs.LittleEndian.{SpellsRaw, raw_text}
use Rattle.bitcode_memory.specs.Ints.{residue}
use Rattle.bitcode_columns.specs.Tagged.{SpellsTagged, tagged_text}
use Rattle.bitcode_columns.specs.ByteColumn.{SpellsBytes, byte_text}

-- how often a width can be halved
abbrev pub halvings : ℕ → ℕ
halvings width =
    if nat_lt width 2 then 0 else if nat_lt width 4 then 1 else if nat_lt width 8 then 2 else if nat_lt width 16 then 3 else 4

abbrev pub highest_int_tag : ℕ → ℕ
highest_int_tag width = 2 * halvings width

abbrev pub width_at_level : ℕ → ℕ → ℕ
width_at_level width level = width / 2 ^ level

pub data IntForm : Type 0 where
  bytes_form : IntForm
  bare_form : IntForm
  tagged_form : IntForm

abbrev pub int_form : (width count : ℕ) → IntForm
int_form width count =
    if width == 1 then bytes_form else if count == 0 || (width == 2 && count == 1) then bare_form else tagged_form

-- narrow numbers of a width: raw, except those of one byte
abbrev pub SpellsNarrow : ℕ → List ℕ → List ℕ → Type 0
SpellsNarrow width bytes numbers = MatchBool (width == 1) (SpellsBytes bytes numbers) (SpellsRaw width bytes numbers)

abbrev pub SpellsAtIntLevel : ℕ → ℕ → List ℕ → List ℕ → Type 0
SpellsAtIntLevel width level = SpellsNarrow (width_at_level width level)

abbrev pub SpellsIntsAs : IntForm → ℕ → List ℕ → List ℕ → Type 0
SpellsIntsAs bytes_form width bytes entries = SpellsBytes bytes entries
SpellsIntsAs bare_form width bytes entries = SpellsRaw width bytes entries
SpellsIntsAs tagged_form width bytes entries = SpellsTagged width (highest_int_tag width) (SpellsAtIntLevel width) bytes entries

-- Accepted: the entries as residues of the width.
abbrev pub SpellsInts : ℕ → List ℕ → List ℕ → Type 0
SpellsInts width bytes entries = SpellsIntsAs (int_form width (length entries)) width bytes entries

-- the least width that holds a number
abbrev pub width_for : ℕ → ℕ
width_for number =
    if nat_lt number (256 ^ 1) then 1 else if nat_lt number (256 ^ 2) then 2 else if nat_lt number (256 ^ 4) then 4
    else if nat_lt number (256 ^ 8) then 8 else 16

abbrev pub int_level_for : ℕ → ℕ → ℕ
int_level_for width number = halvings width - halvings (width_for number)

abbrev pub narrow_text : ℕ → List ℕ → List ℕ
narrow_text width numbers = if width == 1 then byte_text (map pos numbers) else raw_text width numbers

abbrev pub text_at_int_level : ℕ → ℕ → List ℕ → List ℕ
text_at_int_level width level = narrow_text (width_at_level width level)

abbrev pub int_text_as : IntForm → ℕ → List ℤ → List ℕ
int_text_as bytes_form width entries = byte_text entries
int_text_as bare_form width entries = raw_text width (map (residue width) entries)
int_text_as tagged_form width entries = tagged_text width (int_level_for width) (text_at_int_level width) entries

-- Written: the entries as numbers, signed or not.
unfoldable pub int_text : ℕ → List ℤ → List ℕ
int_text width entries = int_text_as (int_form width (length entries)) width entries
