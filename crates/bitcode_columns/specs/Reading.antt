-- What a reader of a column does with its input, and which fault it reports.
use Rattle.std.specs.Prelude.{◌≡◌, ℕ, Bool, true, false, ◌||◌, ◌-◌, ◌*◌, ◌/◌, ◌%◌, List, [], ◌∷◌, ◌++◌, length, drop, slice_index, Option, Some, None, nat_lt, nat_le, ◌==◌, ◌⊎◌, if◌then◌else◌}
use Rattle.std.specs.Int.{div_ceil}
use Rattle.std.specs.List.{list_all, range_with_len}
use Rattle.bitcode_memory.specs.declared.error.Reason.{Reason}
use Rattle.bitcode_memory.specs.declared.error.Reason.TheVariants.{Eof, InvalidPacking, OutOfMemory}
use Rattle.bitcode_columns.specs.declared.pack.Base.{Base}
use Rattle.bitcode_columns.specs.declared.pack.Base.TheVariants.{Two}
use Rattle.bitcode_columns.specs.Digits.{radix, digits_in_byte, base_for, digit}
use Rattle.bitcode_columns.specs.Tagged.{level_of_tag}
use Rattle.bitcode_columns.specs.ByteColumn.{base_at_level, highest_byte_tag}
use Rattle.bitcode_columns.specs.IntColumn.{IntForm, bytes_form, bare_form, tagged_form, int_form, highest_int_tag, width_at_level}

-- a prefix of the old input spells so many entries, and the new input is the rest
pub record Reads {Entry : Type 0} (Spells : List ℕ → List Entry → Type 0) (count : ℕ) (old : List ℕ) (entries : List Entry) (new : List ℕ) : Type 0 where
  pub size : length entries ≡ count
  pub piece : List ℕ
  pub whole : old ≡ piece ++ new
  pub spelled : Spells piece entries

-- after an error the input is a suffix of what it was
pub record IsEndOf (old new : List ℕ) : Type 0 where
  pub taken : List ℕ
  pub whole : old ≡ taken ++ new

-- the fault, if there is one, of an input that must have so many bytes
abbrev pub missing : ℕ → List ℕ → Option Reason
missing wanted input = if nat_lt (length input) wanted then Some Eof else None

abbrev pub digits_fault : Base → ℕ → List ℕ → Option Reason
digits_fault base count input = missing (div_ceil count (digits_in_byte base)) input

abbrev pub bools_fault : ℕ → List ℕ → Option Reason
bools_fault = digits_fault Two

-- first missing bytes, then an entry that is not a variant
abbrev pub is_variant_at : (variants : ℕ) → List ℕ → ℕ → Bool
is_variant_at variants input i =
    nat_lt (digit (radix (base_for (variants - 1))) (slice_index input (i / digits_in_byte (base_for (variants - 1))))
    (i % digits_in_byte (base_for (variants - 1)))) variants

abbrev pub variants_fault : (variants count : ℕ) → List ℕ → Option Reason
variants_fault variants count input =
    if nat_lt (length input) (div_ceil count (digits_in_byte (base_for (variants - 1)))) then Some Eof
    else if list_all (is_variant_at variants input) (range_with_len 0 count) then None else Some InvalidPacking

-- first the tag, then the least entry, then the narrow numbers
abbrev pub tagged_fault : (width highest : ℕ) (narrow_fault : ℕ → List ℕ → Option Reason) → List ℕ → Option Reason
tagged_fault width highest narrow_fault [] = Some Eof
tagged_fault width highest narrow_fault (tag ∷ input) =
    if nat_lt highest tag then Some InvalidPacking
    else if nat_lt (length input) (width * (tag % 2)) then Some Eof
    else narrow_fault (level_of_tag tag) (drop (width * (tag % 2)) input)

abbrev pub bytes_fault : ℕ → List ℕ → Option Reason
bytes_fault count input =
    if nat_le count 2 then missing count input
    else tagged_fault 1 highest_byte_tag (λ level. digits_fault (base_at_level level) count) input

abbrev pub narrow_fault : ℕ → ℕ → List ℕ → Option Reason
narrow_fault count width input = if width == 1 then bytes_fault count input else missing (count * width) input

abbrev pub ints_fault_as : IntForm → ℕ → ℕ → List ℕ → Option Reason
ints_fault_as bytes_form width count input = bytes_fault count input
ints_fault_as bare_form width count input = missing (count * width) input
ints_fault_as tagged_form width count input =
    tagged_fault width (highest_int_tag width) (λ level. narrow_fault count (width_at_level width level)) input

abbrev pub ints_fault : ℕ → ℕ → List ℕ → Option Reason
ints_fault width count input = ints_fault_as (int_form width count) width count input

-- An error reports the fault, and an allocation fails only if there is none.
abbrev pub Names : Reason → Option Reason → Type 0
Names reason fault = ((reason ≡ OutOfMemory) × (fault ≡ None)) ⊎ (fault ≡ Some reason)

-- The same for a variant column: it allocates once the bytes are there, before it knows the entries.
abbrev pub NamesVariantFault : Reason → (variants count : ℕ) → List ℕ → Type 0
NamesVariantFault reason variants count input =
    ((reason ≡ OutOfMemory) × (digits_fault (base_for (variants - 1)) count input ≡ None)) ⊎ (variants_fault variants count input ≡ Some reason)

-- Entries that the input has unpacked: their reader borrows them without allocating.
abbrev pub has_raw_tag : List ℕ → Bool
has_raw_tag [] = false
has_raw_tag (tag ∷ input) = tag == 0

-- with 17 variants or more
abbrev pub variants_stand_raw : (variants count : ℕ) → Bool
variants_stand_raw variants count = nat_le 17 variants || count == 0

abbrev pub bytes_stand_raw : ℕ → List ℕ → Bool
bytes_stand_raw count input = nat_le count 2 || has_raw_tag input

abbrev pub ints_stand_raw_as : IntForm → ℕ → List ℕ → Bool
ints_stand_raw_as bytes_form count input = bytes_stand_raw count input
ints_stand_raw_as bare_form count input = true
ints_stand_raw_as tagged_form count input = has_raw_tag input

abbrev pub ints_stand_raw : ℕ → ℕ → List ℕ → Bool
ints_stand_raw width count input = ints_stand_raw_as (int_form width count) count input
