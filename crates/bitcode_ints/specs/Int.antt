-- The data of integers, and the data of their bytes.
use Rattle.std.specs.Prelude.{◌≡◌, ℕ, ◌^◌, ◌<◌, Bool, ℤ, List, [], ◌∷◌, ◌++◌, map}
use Rattle.std.specs.List.{AllZip}
use Rattle.bitcode_columns.specs.IntColumn.{SpellsInts, int_text}
use Rattle.bitcode_columns.specs.Reading.{Reads}
use Rattle.bitcode_memory.specs.Ints.{number_of}
use Rattle.bitcode_memory.specs.LittleEndian.{little_endian}
use Rattle.bitcode_shapes.specs.Datum.{Datum, number}
use Rattle.bitcode_coder.specs.Spelling.{number_of_residue}

module _ {T : Type 0} where
  -- the integers, each as a number
  abbrev pub int_data : (T → ℤ) → List T → List Datum
  int_data value ints = map (λ t. number (value t)) ints

  -- integers of a width, signed (true) or not, that are given as bytes, the lowest first
  abbrev pub bytes_data : ℕ → Bool → (T → List ℕ) → List T → List Datum
  bytes_data width signed bytes_of entries = map (λ entry. number_of_residue width signed (little_endian (bytes_of entry))) entries

-- one integer for each value was pushed
pub record PushesInts {T I : Type 0} (lists : T → Datum → Type 0) (value : I → ℤ) (values : List T) (old new : List I) : Type 0 where
  pub ints : List I
  pub pushed : new ≡ old ++ ints
  pub stand : AllZip (λ t int. lists t (number (value int))) values ints

-- the column of one integer for each value was written
pub record WritesInts {T I : Type 0} (lists : T → Datum → Type 0) (width : ℕ) (value : I → ℤ) (values : List T) (before after : List ℕ) : Type 0 where
  pub ints : List I
  pub stand : AllZip (λ t int. lists t (number (value int))) values ints
  pub written : after ≡ before ++ int_text width (map value ints)

-- a prefix of the old input is the column of this integer, and the new input is the rest
pub record ReadsInt (width : ℕ) (signed : Bool) (z : ℤ) (old new : List ℕ) : Type 0 where
  pub residue : ℕ
  pub read : Reads (SpellsInts width) 1 old (residue ∷ []) new
  pub below : residue < 256 ^ width
  pub is : z ≡ number_of width signed residue
