-- How many arrays a datum holds at a node of its shape. A path leads to the node. Each step names an array's elements,
-- a map's keys or values, a field or a variant; a list's elements take no step.
use Rattle.std.specs.Prelude.{◌≡◌, ℕ, zero, suc, List, [], ◌∷◌, ◌==◌, cond, sum_by}
use Rattle.bitcode_shapes.specs.Datum.{Datum, elements_in, first_in, second_in, variant_in, payload_in}
use Rattle.bitcode_shapes.specs.Shape.{Shape, Shapes, seq_shape, map_shape, array_shape, pair_shape, choice_shape, admitted_shape, no_shapes, shape_and}

abbrev mutual
  pub arrays_at : Shape → List ℕ → Datum → ℕ
  arrays_at (seq_shape limit element) way d = sum_by (arrays_at element way) (elements_in d)
  arrays_at (map_shape key value) [] d = 0
  arrays_at (map_shape key value) (zero ∷ way) d = sum_by (λ p. arrays_at key way (first_in p)) (elements_in d)
  arrays_at (map_shape key value) (suc place ∷ way) d = sum_by (λ p. arrays_at value way (second_in p)) (elements_in d)
  arrays_at (array_shape size element) [] d = 1
  arrays_at (array_shape size element) (place ∷ way) d = sum_by (arrays_at element way) (elements_in d)
  arrays_at (pair_shape first second) [] d = 0
  arrays_at (pair_shape first second) (zero ∷ way) d = arrays_at first way (first_in d)
  arrays_at (pair_shape first second) (suc place ∷ way) d = arrays_at second way (second_in d)
  arrays_at (choice_shape of_variants) [] d = 0
  arrays_at (choice_shape of_variants) (place ∷ way) d = cond (variant_in d == place) (arrays_in of_variants (variant_in d) way (payload_in d)) 0
  arrays_at (admitted_shape admits shape) way d = arrays_at shape way d
  arrays_at _ way d = 0

  -- in the payload of the variant at the place
  pub arrays_in : Shapes → ℕ → List ℕ → Datum → ℕ
  arrays_in no_shapes place way d = 0
  arrays_in (shape_and s ss) zero way d = arrays_at s way d
  arrays_in (shape_and s ss) (suc place) way d = arrays_in ss place way d

-- all listings of a value hold the same numbers of arrays, at each node
pub record ListsSameArrays {T : Type 0} (shape : Shape) (is_value : T → Type 0) (lists : T → Datum → Type 0) : Type 0 where
  pub at : (t : T) (d e : Datum) → is_value t → lists t d → lists t e → (way : List ℕ) → arrays_at shape way d ≡ arrays_at shape way e

-- For values that are listed by an index and a datum: all listings have one index, and payloads with the same numbers
-- of arrays.
pub record VariantsListSameArrays {T : Type 0} (shapes : Shapes) (is_value : T → Type 0) (lists : T → ℕ → Datum → Type 0) : Type 0 where
  pub at : (t : T) (i j : ℕ) (d e : Datum) → is_value t → lists t i d → lists t j e
      → (i ≡ j) × ((way : List ℕ) → arrays_in shapes i way d ≡ arrays_in shapes i way e)
