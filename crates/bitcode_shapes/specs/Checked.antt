-- The listings of types that allow only some numbers. They list and make their numbers as integers do.
use Rattle.std.specs.Prelude.{ℕ, Bool, false, ℤ, pos}
use Rattle.bitcode_shapes.specs.Shape.{Shape, Allowed, nonzero, scalar, between, number_shape, IsInWidth, IsAllowed}

-- an integer of a width that is not 0
abbrev pub nonzero_shape : ℕ → Bool → Shape
nonzero_shape width signed = number_shape width signed nonzero

-- a Unicode scalar value
abbrev pub char_shape : Shape
char_shape = number_shape 4 false scalar

-- nanoseconds below one second
abbrev pub below_second : Allowed
below_second = between (pos 0) (pos 999999999)

abbrev pub nanosecond_shape : Shape
nanosecond_shape = number_shape 4 false below_second

abbrev pub IsCheckedValue : {T : Type 0} → ℕ → Bool → Allowed → (T → ℤ) → T → Type 0
IsCheckedValue width signed allowed value t = IsInWidth width signed (value t) × IsAllowed allowed (value t)
