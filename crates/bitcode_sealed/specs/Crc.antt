-- CRC-32 as zlib, gzip and PNG have it (ISO-HDLC), bit by bit.
use Rattle.std.specs.Prelude.{ℕ, zero, suc, ◌/◌, ◌%◌, List, [], ◌∷◌, bit_xor}

-- the polynomial, its highest power in the lowest bit
abbrev pub polynomial : ℕ
polynomial = 0xEDB88320

-- what a bit puts back as it leaves the register
abbrev pub feedback : ℕ → ℕ
feedback zero = 0
feedback (suc _) = polynomial

-- the register with its lowest bit shifted out
unfoldable pub bit_step : ℕ → ℕ
bit_step register = bit_xor (register / 2) (feedback (register % 2))

-- the register with so many bits shifted out
unfoldable pub bit_steps : ℕ → ℕ → ℕ
bit_steps zero register = register
bit_steps (suc n) register = bit_steps n (bit_step register)

-- the register with a byte taken in
unfoldable pub byte_step : ℕ → ℕ → ℕ
byte_step register byte = bit_steps 8 (bit_xor register byte)

-- the register with the bytes taken in
unfoldable pub register_after : ℕ → List ℕ → ℕ
register_after register [] = register
register_after register (byte ∷ bytes) = register_after (byte_step register byte) bytes

-- thirty-two ones: the register at the start, and what is put over it at the end
abbrev pub ones : ℕ
ones = 0xFFFFFFFF

-- the CRC-32 of the bytes
unfoldable pub crc_32 : List ℕ → ℕ
crc_32 bytes = bit_xor (register_after ones bytes) ones
