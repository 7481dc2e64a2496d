-- The listings of floats: the datum of a float is the number with its bits. All NaNs have the same bits.
use Rattle.std.specs.Prelude.{ℤ, pos}
use lib.Dec.{T}
use lib.Ieee.{Float, Format, fits, to_bits}

abbrev pub float_number : Format → Float → ℤ
float_number format x = pos (to_bits format x)

-- the format has the value
abbrev pub IsFloatValue : Format → Float → Type 0
IsFloatValue format x = T (fits format x)
