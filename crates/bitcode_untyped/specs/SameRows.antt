-- Worked rows: which values are equal.
use Rattle.std.specs.Prelude.{◌≡◌, ℕ, true, false, refl, from_bits}
use Rattle.std.specs.Float.{binary32, binary64}
use Rattle.bitcode_shapes.specs.Datum.{Datum}
use Rattle.bitcode_untyped.specs.Content.{content_step}
use Rattle.bitcode_untyped.specs.Same.{same_datum}
use Rattle.bitcode_untyped.specs.declared.value.Value.TheOpen.{Value-F}

-- the content of the float with these bits
abbrev single : ℕ → Datum
single bits = content_step (Value-F.F32 (from_bits binary32 bits))

abbrev double : ℕ → Datum
double bits = content_step (Value-F.F64 (from_bits binary64 bits))

zero_and_negative_zero : same_datum (single 0) (single 2147483648) ≡ false
unfolding lib.Ieee.to_bits lib.Ieee.of_bits
zero_and_negative_zero = refl

-- a NaN, and one with a sign and a payload
two_nans : same_datum (single 2143289344) (single 4290772993) ≡ true
unfolding lib.Ieee.to_bits lib.Ieee.of_bits
two_nans = refl

nan_and_infinity : same_datum (single 2143289344) (single 2139095040) ≡ false
unfolding lib.Ieee.to_bits lib.Ieee.of_bits
nan_and_infinity = refl

floats_of_two_sizes : same_datum (single 0) (double 0) ≡ false
floats_of_two_sizes = refl

number_and_float : same_datum (content_step (Value-F.U32 1065353216)) (single 1065353216) ≡ false
number_and_float = refl
