-- Numbers of several bytes are written with the lowest byte first.
use Rattle.std.specs.Prelude.{◌≡◌, ℕ, zero, suc, ◌+◌, ◌*◌, ◌/◌, ◌%◌, ◌^◌, ◌<◌, List, [], ◌∷◌, All}
use Rattle.std.specs.List.{flat_map}

-- the number with these bytes
abbrev pub little_endian : List ℕ → ℕ
little_endian [] = 0
little_endian (byte ∷ bytes) = byte + 256 * little_endian bytes

-- the bytes of a number, at a width in bytes
abbrev pub number_bytes : ℕ → ℕ → List ℕ
number_bytes zero n = []
number_bytes (suc width) n = n % 256 ∷ number_bytes width (n / 256)

-- raw numbers of one width, one after another
unfoldable pub raw_text : ℕ → List ℕ → List ℕ
raw_text width numbers = flat_map (number_bytes width) numbers

-- the bytes are these numbers, raw
pub record SpellsRaw (width : ℕ) (bytes numbers : List ℕ) : Type 0 where
  pub whole : bytes ≡ raw_text width numbers
  pub fit : All (λ n. n < 256 ^ width) numbers
