-- A column of floats holds their bits. The bits of 4-byte floats are split: first come the three low bytes of each,
-- and then the top byte of each, which holds the sign and most of the exponent. There is no tag. 8-byte floats are an
-- unsigned integer column.
use Rattle.std.specs.Prelude.{◌≡◌, ℕ, ◌/◌, ◌%◌, ◌^◌, ◌<◌, ◌++◌, List, map, All, to_bits, from_bits}
use Rattle.std.specs.Float.{Format}
use Rattle.bitcode_memory.specs.LittleEndian.{raw_text}

-- the bits of the float with these bits. They are the same bits, but all NaNs have one: a quiet one without a sign.
abbrev pub canonical : Format → ℕ → ℕ
canonical f bits = to_bits f (from_bits f bits)

-- the three low bytes of bits, as a number, and the top byte
abbrev pub low_of : ℕ → ℕ
low_of bits = bits % 256 ^ 3

abbrev pub top_of : ℕ → ℕ
top_of bits = bits / 256 ^ 3

-- Written.
unfoldable pub split_text : List ℕ → List ℕ
split_text bits = raw_text 3 (map low_of bits) ++ map top_of bits

-- Accepted.
pub record SpellsSplit (piece bits : List ℕ) : Type 0 where
  pub whole : piece ≡ split_text bits
  pub fit : All (λ b. b < 256 ^ 4) bits
