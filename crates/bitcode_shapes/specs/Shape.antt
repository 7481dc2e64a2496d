-- A shape says which data a type has, and therefore which columns.
use Rattle.std.specs.Prelude.{◌≡◌, ℕ, zero, suc, ◌*◌, ◌^◌, ◌<◌, ◌≤◌, Bool, true, false, ℤ, pos, negsuc, ◌≤ℤ◌, ◌≢◌, Option, Some, None, List, length, All, IsUtf8, ◌⊎◌}
use Rattle.std.specs.Char.{IsScalar}
use lib.Dec.{T}
use lib.Ieee.{Float, Format, fits, to_bits}
use Rattle.bitcode_shapes.specs.Datum.{Datum, number, text, list, choice, unit, data_of, pair}

-- the numbers of a width that an entry may be
pub data Allowed : Type 0 where
  any_number : Allowed
  nonzero : Allowed
  scalar : Allowed
  between : ℤ → ℤ → Allowed

mutual
  pub data Shape : Type 0 where
    -- no columns
    unit_shape : Shape
    -- no datum has it
    never_shape : Shape
    bool_shape : Shape
    -- a number of a width in bytes, signed (true) or not
    number_shape : ℕ → Bool → Allowed → Shape
    -- the bits of a float
    float_shape : Format → Shape
    -- a UTF-8 text, of at most so many bytes if a number is given
    text_shape : Option ℕ → Shape
    -- a byte of a text
    raw_shape : Shape
    -- a list, of at most so many elements if a number is given
    seq_shape : Option ℕ → Shape → Shape
    -- keys and values
    map_shape : Shape → Shape → Shape
    -- exactly so many elements
    array_shape : ℕ → Shape → Shape
    pair_shape : Shape → Shape → Shape
    -- one of several variants, each with a payload
    choice_shape : Shapes → Shape
    -- the data of a shape that a type's own check admits
    admitted_shape : (Datum → Bool) → Shape → Shape

  pub data Shapes : Type 0 where
    no_shapes : Shapes
    shape_and : Shape → Shapes → Shapes

-- how many variants
abbrev pub variant_count : Shapes → ℕ
variant_count no_shapes = 0
variant_count (shape_and s ss) = suc (variant_count ss)

-- z fits in so many bytes
abbrev pub IsInWidth : ℕ → Bool → ℤ → Type 0
IsInWidth width false (pos n) = n < 256 ^ width
IsInWidth width false (negsuc n) = ⊥
IsInWidth width true (pos n) = 2 * n < 256 ^ width
IsInWidth width true (negsuc n) = 2 * n < 256 ^ width

abbrev pub IsScalarNumber : ℤ → Type 0
IsScalarNumber (pos n) = IsScalar n
IsScalarNumber (negsuc n) = ⊥

abbrev pub IsAllowed : Allowed → ℤ → Type 0
IsAllowed any_number z = Unit {0}
IsAllowed nonzero z = z ≢ pos 0
IsAllowed scalar z = IsScalarNumber z
IsAllowed (between low high) z = (low ≤ℤ z) × (z ≤ℤ high)

abbrev pub IsWithin : Option ℕ → ℕ → Type 0
IsWithin None n = Unit {0}
IsWithin (Some limit) n = n ≤ limit

pub record IsNumberOf (width : ℕ) (signed : Bool) (allowed : Allowed) (d : Datum) : Type 0 where
  pub value : ℤ
  pub is : d ≡ number value
  pub in_width : IsInWidth width signed value
  pub in_allowed : IsAllowed allowed value

-- All NaNs have the same bits. Each other float has its own.
pub record IsFloatOf (format : Format) (d : Datum) : Type 0 where
  pub value : Float
  pub is : d ≡ number (pos (to_bits format value))
  pub in_format : T (fits format value)

pub record IsNaturalBelow (bound : ℕ) (d : Datum) : Type 0 where
  pub value : ℕ
  pub is : d ≡ number (pos value)
  pub below : value < bound

pub record IsTextOf (limit : Option ℕ) (d : Datum) : Type 0 where
  pub bytes : List ℕ
  pub is : d ≡ text bytes
  pub utf8 : IsUtf8 bytes
  pub within : IsWithin limit (length bytes)

pub record IsListOf (IsElement : Datum → Type 0) (IsCount : ℕ → Type 0) (d : Datum) : Type 0 where
  pub elements : List Datum
  pub is : d ≡ list (data_of elements)
  pub each : All IsElement elements
  pub count : IsCount (length elements)

pub record IsPairOf (IsFirst IsSecond : Datum → Type 0) (d : Datum) : Type 0 where
  pub first : Datum
  pub second : Datum
  pub is : d ≡ pair first second
  pub is_first : IsFirst first
  pub is_second : IsSecond second

pub record IsChoiceOf (IsVariant : ℕ → Datum → Type 0) (d : Datum) : Type 0 where
  pub index : ℕ
  pub payload : Datum
  pub is : d ≡ choice index payload
  pub is_variant : IsVariant index payload

abbrev mutual
  -- the datum is of the shape
  pub IsOf : Shape → Datum → Type 0
  IsOf unit_shape d = d ≡ unit
  IsOf never_shape d = ⊥
  IsOf bool_shape d = IsNaturalBelow 2 d
  IsOf (number_shape width signed allowed) d = IsNumberOf width signed allowed d
  IsOf (float_shape format) d = IsFloatOf format d
  IsOf (text_shape limit) d = IsTextOf limit d
  IsOf raw_shape d = IsNaturalBelow 256 d
  IsOf (seq_shape limit element) d = IsListOf (IsOf element) (IsWithin limit) d
  IsOf (map_shape key value) d = IsListOf (IsPairOf (IsOf key) (IsOf value)) (λ _. Unit {0}) d
  IsOf (array_shape count element) d = IsListOf (IsOf element) (λ n. n ≡ count) d
  IsOf (pair_shape first second) d = IsPairOf (IsOf first) (IsOf second) d
  IsOf (choice_shape shapes) d = IsChoiceOf (IsOfVariant shapes) d
  IsOf (admitted_shape admits shape) d = IsOf shape d × (admits d ≡ true)

  -- the payload is of the variant's shape
  pub IsOfVariant : Shapes → ℕ → Datum → Type 0
  IsOfVariant no_shapes index d = ⊥
  IsOfVariant (shape_and s ss) zero d = IsOf s d
  IsOfVariant (shape_and s ss) (suc index) d = IsOfVariant ss index d

-- a width that numbers may have, in bytes
abbrev pub IsNumberWidth : ℕ → Type 0
IsNumberWidth width = (width ≡ 1) ⊎ ((width ≡ 2) ⊎ ((width ≡ 4) ⊎ ((width ≡ 8) ⊎ (width ≡ 16))))

abbrev mutual
  -- numbers have one of the widths, and a choice has 2 to 256 variants
  pub IsSound : Shape → Type 0
  IsSound unit_shape = Unit {0}
  IsSound never_shape = Unit {0}
  IsSound bool_shape = Unit {0}
  IsSound (number_shape width signed allowed) = IsNumberWidth width
  IsSound (float_shape format) = Unit {0}
  IsSound (text_shape limit) = Unit {0}
  IsSound raw_shape = Unit {0}
  IsSound (seq_shape limit element) = IsSound element
  IsSound (map_shape key value) = IsSound key × IsSound value
  IsSound (array_shape count element) = IsSound element
  IsSound (pair_shape first second) = IsSound first × IsSound second
  IsSound (choice_shape shapes) = (2 ≤ variant_count shapes) × (variant_count shapes ≤ 256) × AreSound shapes
  IsSound (admitted_shape admits shape) = IsSound shape

  pub AreSound : Shapes → Type 0
  AreSound no_shapes = Unit {0}
  AreSound (shape_and s ss) = IsSound s × AreSound ss
