-- The records of numbers, texts, and types that hold no data.
use Rattle.std.proofs.Common.{◌≡◌, ℕ, ◌^◌, ◌<◌, Bool, false, true, ℤ, pos, List, ap, length, refl}
use Rattle.std.specs.Prelude.{IsUtf8, unsigned_abs}
use Rattle.std.specs.declared.alloc.Global.{Global}
use Rattle.std.specs.declared.time.Duration.{Duration}
use lib.Ieee.{Float, Format}
use Rattle.bitcode_shapes.specs.Checked.{IsCheckedValue, below_second}
use Rattle.bitcode_shapes.specs.CompareAlike.{bools_alike, integers_alike, naturals_alike, ones_alike, texts_alike}
use Rattle.bitcode_shapes.specs.DataOf.{DataOf, data_of, plain_data}
use Rattle.bitcode_shapes.specs.Datum.{text, unit}
use Rattle.bitcode_shapes.specs.Durations.{seconds_and_nanos}
use Rattle.bitcode_shapes.specs.Floats.{float_number}
use Rattle.bitcode_shapes.specs.Ints.{IsValueOfWidth, bool_number}
use Rattle.bitcode_shapes.specs.KeyLaws.{bools_equal, integers_equal, naturals_equal, texts_equal}
use Rattle.bitcode_shapes.specs.LawfulChecked.{char_makeable, checked_lawful, signed_nonzero_makeable, unsigned_nonzero_makeable}
use Rattle.bitcode_shapes.specs.LawfulDurations.{duration_lawful, duration_makeable, nanosecond_makeable}
use Rattle.bitcode_shapes.specs.LawfulEmpty.{unit_lawful, unit_makeable}
use Rattle.bitcode_shapes.specs.LawfulFloats.{float_lawful, float_makeable, floats_are_one}
use Rattle.bitcode_shapes.specs.LawfulInts.{bool_lawful, bool_makeable, int_lawful, signed_makeable, unsigned_makeable, width_4}
use Rattle.bitcode_shapes.specs.LawfulNever.{from_never, never_lawful, never_makeable}
use Rattle.bitcode_shapes.specs.LawfulTexts.{text_lawful, text_makeable}
use Rattle.bitcode_shapes.specs.SameArrays.{never_same_arrays, one_datum_same_arrays, one_listing_same_arrays}
use Rattle.bitcode_shapes.specs.SameData.{images_same_data, never_same_data, numbers_same_data, one_datum, pairs_same_data}
use Rattle.bitcode_shapes.specs.SameIsOne.{bools_are_one, exactly, inexact, integers_are_one, naturals_are_one}
use Rattle.bitcode_shapes.specs.Shape.{IsNumberWidth, nonzero, scalar}

-- ---- numbers

abbrev pub bool_data : DataOf Bool
bool_data = data_of bool_lawful bool_makeable one_datum_same_arrays (numbers_same_data bool_number) (exactly (bools_are_one _)) bools_alike (bools_equal _)

abbrev pub unsigned_data : (width : ℕ) → IsNumberWidth width → DataOf ℕ
unsigned_data width known =
    data_of (int_lawful pos width false known) (unsigned_makeable width) one_datum_same_arrays
    (numbers_same_data pos) (exactly (naturals_are_one _)) (naturals_alike (λ n. n)) (naturals_equal _ (λ n. n))

abbrev pub signed_data : (width : ℕ) → IsNumberWidth width → DataOf ℤ
signed_data width known =
    data_of (int_lawful (λ z. z) width true known) (signed_makeable width) one_datum_same_arrays
    (numbers_same_data (λ z. z)) (exactly (integers_are_one _)) (integers_alike (λ z. z)) (integers_equal _ (λ z. z))

-- for a type whose values are the numbers of a width but 0
abbrev pub unsigned_nonzero_data : {T : Type 0} (value : T → ℕ) (width : ℕ) → IsNumberWidth width → ((n : ℕ) → 0 < n → (t : T) × (value t ≡ n)) → DataOf T
unsigned_nonzero_data value width known build =
    data_of (checked_lawful (λ t. pos (value t)) width false nonzero known) (unsigned_nonzero_makeable value width build) one_datum_same_arrays
    (numbers_same_data (λ t. pos (value t))) inexact (naturals_alike value) (naturals_equal _ value)

abbrev pub signed_nonzero_data : {T : Type 0} (value : T → ℤ) (width : ℕ) → IsNumberWidth width → ((z : ℤ) → 0 < unsigned_abs z → (t : T) × (value t ≡ z)) → DataOf T
signed_nonzero_data value width known build =
    data_of (checked_lawful value width true nonzero known) (signed_nonzero_makeable value width build) one_datum_same_arrays
    (numbers_same_data value) inexact (integers_alike value) (integers_equal _ value)

abbrev pub char_data : DataOf ℕ
char_data =
    data_of (checked_lawful pos 4 false scalar width_4) char_makeable one_datum_same_arrays
    (numbers_same_data pos) (exactly (naturals_are_one _)) (naturals_alike (λ c. c)) (naturals_equal _ (λ c. c))

-- for a type whose values are the nanoseconds below one second
abbrev pub nanosecond_data : {T : Type 0} (value : T → ℕ) → ((n : ℕ) → n < 1_000_000_000 → (t : T) × (value t ≡ n)) → DataOf T
nanosecond_data value build =
    data_of (checked_lawful (λ t. pos (value t)) 4 false below_second width_4) (nanosecond_makeable value build) one_datum_same_arrays
    (numbers_same_data (λ t. pos (value t))) inexact (naturals_alike value) (naturals_equal _ value)

-- `==` of durations compares the stored seconds and nanoseconds, and no contract says that these nanoseconds are below
-- one second. So durations are no keys.
abbrev pub duration_data : DataOf Duration
duration_data =
    plain_data duration_lawful duration_makeable (one_listing_same_arrays duration_lawful)
    (images_same_data seconds_and_nanos
    (pairs_same_data {is_a = IsValueOfWidth 8 false pos} {is_b = IsCheckedValue 4 false below_second pos} (numbers_same_data pos) (numbers_same_data pos))) inexact

-- Floats are the same if they have the same bits, where all NaNs have the same. `==` tells a NaN from itself, and does
-- not tell 0 from -0, so floats are no keys.
abbrev pub float_data : (format : Format) → DataOf Float
float_data format =
    plain_data (float_lawful format) (float_makeable format) one_datum_same_arrays
    (numbers_same_data (float_number format)) (exactly (floats_are_one format))

-- ---- texts

abbrev pub text_data : {T : Type 0} (bytes : T → List ℕ) → (Global → (whole : List ℕ) → length whole < 2 ^ 63 → IsUtf8 whole → (t : T) × (bytes t ≡ whole)) → DataOf T
text_data bytes build =
    data_of (text_lawful bytes) (text_makeable bytes build) one_datum_same_arrays
    (one_datum (λ t. text (bytes t)) (λ t u s. ap text s)) inexact (texts_alike bytes) (texts_equal _ bytes)

-- ---- no data

-- for a type of one value
abbrev pub unit_data : {T : Type 0} → T → ((t u : T) → t ≡ u) → DataOf T
unit_data t one =
    data_of unit_lawful (unit_makeable t) one_datum_same_arrays
    (one_datum (λ t. unit) (λ t u s. refl)) (exactly (λ t u h i s. one t u)) ones_alike (λ t u h i s. refl)

-- for a type without values
abbrev pub never_data : {T : Type 0} → ((t : T) (P : ℕ → Type 0) → P 0 → P 1) → DataOf T
never_data never =
    data_of (never_lawful never) never_makeable never_same_arrays
    never_same_data (exactly (λ t u h i s. from_never never t (t ≡ u))) ones_alike (λ t u h i s. refl)
