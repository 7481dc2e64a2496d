-- Worked rows of CRC-32.
use Rattle.std.specs.Prelude.{◌≡◌, [], ◌∷◌, codes, refl}
use Rattle.bitcode_sealed.specs.Crc.{bit_step, bit_steps, byte_step, register_after, crc_32}

of_nothing : crc_32 [] ≡ 0
unfolding crc_32 register_after
of_nothing = refl

of_a_zero : crc_32 (0 ∷ []) ≡ 0xD202EF8D
unfolding crc_32 register_after byte_step bit_steps bit_step
of_a_zero = refl

-- the row by which a CRC is named
of_nine_digits : crc_32 (codes "123456789") ≡ 0xCBF43926
unfolding crc_32 register_after byte_step bit_steps bit_step
of_nine_digits = refl
