-- Arrays hold the data of their elements, and are lawful if the elements are.
use Rattle.std.proofs.Common.{◌≡◌, ℕ, Bool, List, length, refl}
use Rattle.std.specs.Prelude.{All}
use Rattle.bitcode_shapes.specs.Datum.{Datum}
use Rattle.bitcode_shapes.specs.Shape.{Shape, array_shape}
use Rattle.bitcode_shapes.specs.Lawful.{Lawful, Makeable}
use Rattle.bitcode_shapes.specs.Lists.{ListsSequence, MakesSequence, SameSequence}
use Rattle.bitcode_shapes.specs.LawfulLists.{sequence_lawful, sequence_makeable}

-- the elements satisfy their invariant, and there are so many
pub record IsArrayValue {T : Type 0} (size : ℕ) (is_value : T → Type 0) (values : List T) : Type 0 where
  pub each : All is_value values
  pub count : length values ≡ size

module _ {T : Type 0} (size : ℕ) (shape : Shape) (is_value : T → Type 0) (lists : T → Datum → Type 0) (same : T → T → Type 0) where
  pub array_lawful : (order : Bool) → Lawful shape is_value lists same order
      → Lawful (array_shape size shape) (IsArrayValue size is_value) (ListsSequence lists) (SameSequence same) order
  array_lawful order element =
      sequence_lawful shape is_value lists same (λ (values : List T). values) (IsArrayValue size is_value) (λ values h. h.each)
      (array_shape size shape) (λ n. n ≡ size) order (λ sound. sound) (λ d l. l) (λ values h. h.count) element

  pub array_makeable : (makes : Datum → T → Type 0) → Makeable shape is_value lists same makes
      → Makeable (array_shape size shape) (IsArrayValue size is_value) (ListsSequence lists) (SameSequence same) (MakesSequence makes)
  array_makeable makes element =
      sequence_makeable shape is_value lists same (λ (values : List T). values) (IsArrayValue size is_value) (λ values h. h.each)
      (array_shape size shape) (λ n. n ≡ size) makes (λ n. Unit {0}) (λ d is. is) (λ d s. (tt, s))
      (λ g values any each count. (values, (record { each = each; count = count }, refl))) element
