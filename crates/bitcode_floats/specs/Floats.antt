-- The data of floats, and the data of bits.
use Rattle.std.specs.Prelude.{ℕ, List, map}
use Rattle.std.specs.Float.{Float, Format}
use Rattle.bitcode_memory.specs.LittleEndian.{little_endian}
use Rattle.bitcode_shapes.specs.Datum.{Datum, number}
use Rattle.bitcode_shapes.specs.Floats.{float_number}
use Rattle.bitcode_coder.specs.Spelling.{float_of_bits}

abbrev pub float_datum : Format → Float → Datum
float_datum format x = number (float_number format x)

abbrev pub data_of_floats : Format → List Float → List Datum
data_of_floats format xs = map (float_datum format) xs

abbrev pub data_of_bits : Format → List ℕ → List Datum
data_of_bits format bits = map (float_of_bits format) bits

-- 8-byte floats, each as its bytes, the lowest first
abbrev pub residue_of : List ℕ → ℕ
residue_of bytes = little_endian bytes

abbrev pub long_bits : List (List ℕ) → List ℕ
long_bits entries = map residue_of entries
