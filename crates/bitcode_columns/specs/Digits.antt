-- Several small entries share a byte, as its digits in a base, the lowest digit first. In base 256 each byte is one
-- digit, which is one entry.
use Rattle.std.specs.Prelude.{◌≡◌, ℕ, ◌+◌, ◌*◌, ◌/◌, ◌%◌, ◌^◌, ◌<◌, List, [], ◌∷◌, length, map, take, drop, slice_index, nat_lt, if◌then◌else◌}
use Rattle.std.specs.List.{range_with_len}
use Rattle.std.specs.Int.{div_ceil}
use Rattle.bitcode_columns.specs.declared.pack.Base.{Base}
use Rattle.bitcode_columns.specs.declared.pack.Base.TheVariants.{Whole, Sixteen, Six, Four, Three, Two}

abbrev pub radix : Base → ℕ
radix Whole = 256
radix Sixteen = 16
radix Six = 6
radix Four = 4
radix Three = 3
radix Two = 2

-- how many digits a byte has
abbrev pub digits_in_byte : Base → ℕ
digits_in_byte Whole = 1
digits_in_byte Sixteen = 2
digits_in_byte Six = 3
digits_in_byte Four = 4
digits_in_byte Three = 5
digits_in_byte Two = 8

-- the smallest base that has a digit for this number
abbrev pub base_for : ℕ → Base
base_for greatest =
    if nat_lt greatest 2 then Two else if nat_lt greatest 3 then Three else if nat_lt greatest 4 then Four
    else if nat_lt greatest 6 then Six else if nat_lt greatest 16 then Sixteen else Whole

-- the digit of a byte at a place
abbrev pub digit : (radix byte place : ℕ) → ℕ
digit radix byte place = byte / radix ^ place % radix

-- the number with these digits
abbrev pub number_with_digits : (radix : ℕ) → List ℕ → ℕ
number_with_digits radix [] = 0
number_with_digits radix (digit ∷ digits) = digit + radix * number_with_digits radix digits

-- Accepted: entry i is digit i mod d of byte i div d, for d digits a byte. A digit that no entry uses may be anything.
pub record SpellsDigits (base : Base) (bytes entries : List ℕ) : Type 0 where
  pub size : length bytes ≡ div_ceil (length entries) (digits_in_byte base)
  pub each : (i : ℕ) → i < length entries → slice_index entries i
      ≡ digit (radix base) (slice_index bytes (i / digits_in_byte base)) (i % digits_in_byte base)

-- Written: each byte is the number whose digits are its entries. Unused digits are 0.
unfoldable pub digits_text : Base → List ℕ → List ℕ
digits_text base entries =
    map (λ byte. number_with_digits (radix base) (take (digits_in_byte base) (drop (byte * digits_in_byte base) entries)))
    (range_with_len 0 (div_ceil (length entries) (digits_in_byte base)))
