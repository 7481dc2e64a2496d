-- A column of integers that are not all allowed: what its reader holds.
use Rattle.std.specs.Prelude.{ℕ, zero, suc, Bool, true, false, ◌&&◌, ℤ, pos, negsuc, List, [], ◌∷◌, map, if◌then◌else◌}
use Rattle.std.specs.Int.Signed.{le_z}
use lib.Utf8.{scalar as is_scalar}
use Rattle.bitcode_memory.specs.LittleEndian.{little_endian}
use Rattle.bitcode_memory.specs.Ints.{number_of}
use Rattle.bitcode_shapes.specs.Datum.{Datum, number}
use Rattle.bitcode_shapes.specs.Shape.{Allowed, any_number, nonzero, scalar, between}

-- whether a number is allowed
abbrev pub is_allowed : Allowed → ℤ → Bool
is_allowed any_number z = true
is_allowed nonzero (pos zero) = false
is_allowed nonzero (pos (suc n)) = true
is_allowed nonzero (negsuc n) = true
is_allowed scalar (pos n) = is_scalar n
is_allowed scalar (negsuc n) = false
is_allowed (between low high) z = le_z low z && le_z z high

-- the numbers before the first one that is not allowed: all of them, if a reader accepted them
abbrev pub allowed_front : Allowed → List ℤ → List ℤ
allowed_front allowed [] = []
allowed_front allowed (z ∷ zs) = if is_allowed allowed z then z ∷ allowed_front allowed zs else []

module _ {T : Type 0} where
  -- the numbers of entries that are given as bytes, the lowest first
  abbrev pub numbers_of : ℕ → Bool → (T → List ℕ) → List T → List ℤ
  numbers_of width signed bytes_of entries = map (λ entry. number_of width signed (little_endian (bytes_of entry))) entries

abbrev pub checked_data : Allowed → List ℤ → List Datum
checked_data allowed zs = map number (allowed_front allowed zs)
