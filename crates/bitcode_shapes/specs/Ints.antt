-- The shapes, listings and making of bools and integers: their data are numbers.
use Rattle.std.specs.Prelude.{◌≡◌, ℕ, Bool, ℤ, pos, if◌then◌else◌}
use Rattle.bitcode_shapes.specs.Datum.{Datum, number}
use Rattle.bitcode_shapes.specs.Shape.{Shape, number_shape, any_number, IsInWidth}

abbrev pub bool_number : Bool → ℤ
bool_number b = pos (if b then 1 else 0)

abbrev pub int_shape : ℕ → Bool → Shape
int_shape width signed = number_shape width signed any_number

-- for a type whose data are numbers
abbrev pub ListsNumber : {T : Type 0} → (T → ℤ) → T → Datum → Type 0
ListsNumber value t d = d ≡ number (value t)

abbrev pub MakesNumber : {T : Type 0} → (T → ℤ) → Datum → T → Type 0
MakesNumber value d t = d ≡ number (value t)

abbrev pub SameNumber : {T : Type 0} → (T → ℤ) → T → T → Type 0
SameNumber value t u = value t ≡ value u

abbrev pub IsValueOfWidth : {T : Type 0} → ℕ → Bool → (T → ℤ) → T → Type 0
IsValueOfWidth width signed value t = IsInWidth width signed (value t)
