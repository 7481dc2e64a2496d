-- What containers can hold. A list, a map or a text without a limit has fewer than 2 ^ 63 elements or bytes. One with a
-- limit holds at most that many, and an array exactly as many as its shape says.
use Rattle.std.specs.Prelude.{ℕ, zero, suc, ◌<◌, ◌^◌, Option, Some, None, length, All}
use Rattle.bitcode_shapes.specs.Datum.{Datum, text_in, elements_in, first_in, second_in, variant_in, payload_in}
use Rattle.bitcode_shapes.specs.Shape.{Shape, Shapes, text_shape, seq_shape, map_shape, array_shape, pair_shape, choice_shape, admitted_shape, no_shapes, shape_and}

abbrev pub IsStorableSize : Option ℕ → ℕ → Type 0
IsStorableSize None n = n < 2 ^ 63
IsStorableSize (Some limit) n = Unit {0}

abbrev mutual
  pub IsStorable : Shape → Datum → Type 0
  IsStorable (text_shape limit) d = IsStorableSize limit (length (text_in d))
  IsStorable (seq_shape limit element) d = IsStorableSize limit (length (elements_in d)) × All (IsStorable element) (elements_in d)
  IsStorable (map_shape key value) d =
      IsStorableSize None (length (elements_in d)) × All (λ p. IsStorable key (first_in p) × IsStorable value (second_in p)) (elements_in d)
  IsStorable (array_shape size element) d = All (IsStorable element) (elements_in d)
  IsStorable (pair_shape first second) d = IsStorable first (first_in d) × IsStorable second (second_in d)
  IsStorable (choice_shape shapes) d = IsStorableVariant shapes (variant_in d) (payload_in d)
  IsStorable (admitted_shape admits shape) d = IsStorable shape d
  IsStorable _ d = Unit {0}

  -- for the payload of a variant
  pub IsStorableVariant : Shapes → ℕ → Datum → Type 0
  IsStorableVariant no_shapes index d = Unit {0}
  IsStorableVariant (shape_and s ss) zero d = IsStorable s d
  IsStorableVariant (shape_and s ss) (suc index) d = IsStorableVariant ss index d
