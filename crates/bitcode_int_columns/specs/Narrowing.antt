-- How the writer of an integer column chooses the width of its narrow numbers.
use Rattle.std.specs.Prelude.{◌≡◌, ◌≢◌, ℕ, ◌+◌, ◌-◌, ◌%◌, ◌^◌, ℤ, pos, ◌-ℤ◌, int_lt, unsigned_abs, List, length, ◌++◌, nat_lt, ◌&&◌, ◌⊎◌, if◌then◌else◌}
use Rattle.bitcode_memory.specs.Ints.{residue, least, greatest}
use Rattle.bitcode_columns.specs.IntColumn.{IntForm, bytes_form, bare_form, tagged_form, int_form, width_for}

-- how far the residue of a number lies above a base, modulo the number of residues
abbrev pub above : (width base : ℕ) → ℤ → ℕ
above width base z = (residue width z + (256 ^ width - base)) % 256 ^ width

-- the width of the unshifted entries, whose least is `low` and greatest `high`
abbrev pub plain_width : (width : ℕ) (low high : ℤ) → ℕ
plain_width width low high = if int_lt low (pos 0) then width else width_for (unsigned_abs high)

-- the width of their differences from the least entry
abbrev pub shifted_width : (low high : ℤ) → ℕ
shifted_width low high = width_for (unsigned_abs (high -ℤ low))

-- the narrower of the two widths; the second one only for more than five entries
abbrev pub narrow_width : (count plain shifted : ℕ) → ℕ
narrow_width count plain shifted = if nat_lt 5 count && nat_lt shifted plain then shifted else plain

abbrev pub numbers_width_as : IntForm → ℕ → List ℤ → ℕ
numbers_width_as bytes_form width entries = 1
numbers_width_as bare_form width entries = width
numbers_width_as tagged_form width entries =
    narrow_width (length entries) (plain_width width (least entries) (greatest entries)) (shifted_width (least entries) (greatest entries))

-- the width of the numbers in a written column
unfoldable pub numbers_width : ℕ → List ℤ → ℕ
numbers_width width entries = numbers_width_as (int_form width (length entries)) width entries

-- Numbers of one byte are packed once more, as a byte column. Only this allocates memory other than the output's.
abbrev pub TakesNoScratch : ℕ → List ℤ → Type 0
TakesNoScratch width entries = (length entries ≡ 0) ⊎ (numbers_width width entries ≢ 1)

-- the list begins with this prefix
pub record IsFrontOf (front whole : List ℕ) : Type 0 where
  pub more : List ℕ
  pub joined : whole ≡ front ++ more
