-- The laws of the coders of arrays follow from those of the coders of their elements.
use Rattle.std.proofs.Common.{◌≡◌, ℕ, zero, suc, ◌+◌, ◌*◌, ◌^◌, ◌≤◌, ◌<◌, List, [], ◌∷◌, length, All, ◌⊎◌, inl, inr, ◌∙◌, ap, arith, length-append}
use Rattle.std.proofs.lemmas.List.Elements.{All-head, All-tail}
use Rattle.bitcode_shapes.specs.Datum.{Datum, elements_in}
use Rattle.bitcode_shapes.specs.Shape.{Shape, array_shape, IsOf, IsListOf}
use Rattle.bitcode_coder.specs.Columns.{Columns, arrays, emptied}
use Rattle.bitcode_coder.specs.Transposition.{array_columns, joined}
use Rattle.bitcode_coder.specs.Coder.{written_columns, SurelyOverflows}
use Rattle.bitcode_coder.proofs.DatumLemmas.{joined_each, elements_count}

pub same_array_shape : (size : ℕ) {s t : Shape} → s ≡ t → array_shape size s ≡ array_shape size t
same_array_shape size e = ap (array_shape size) e

pub arrays_of_shape : (size count : ℕ) (shape : Shape) (elements : Columns) → emptied elements ≡ written_columns shape []
    → emptied (array_columns size count elements) ≡ written_columns (array_shape size shape) []
arrays_of_shape zero count shape elements form = form
arrays_of_shape (suc size) count shape elements form = ap (arrays (suc size) 0) form

-- the total number of elements of arrays
pub length-joined_arrays : (IsElement : Datum → Type 0) (size : ℕ) (ds : List Datum) → All (IsListOf IsElement (λ n. n ≡ size)) ds
    → length (joined ds) ≡ length ds * size
length-joined_arrays IsElement size [] each = omega arith
length-joined_arrays IsElement size (d ∷ ds) each =
    let one : length (elements_in d) ≡ size = elements_count IsElement (λ n. n ≡ size) d (All-head (IsListOf IsElement (λ n. n ≡ size)) d ds each) in
    let more : length (joined ds) ≡ length ds * size = length-joined_arrays IsElement size ds (All-tail (IsListOf IsElement (λ n. n ≡ size)) d ds each) in
    length-append (elements_in d) (joined ds) ∙ grind (arith, one, more)

module _ {Overflows : Type 0} (shape : Shape) (elements : Columns) (n : ℕ) where
  -- if the number of arrays overflows, or their elements do, so do the arrays
  pub arrays_overflow : (size count : ℕ) → (Overflows → SurelyOverflows shape elements (n * size))
      → (2 ^ 64 ≤ (count + n) * size) ⊎ Overflows → SurelyOverflows (array_shape size shape) (array_columns size count elements) n
  arrays_overflow zero count of_elements (inl h) ds each size fits = absurd (omega arith)
  arrays_overflow zero count of_elements (inr h) ds each size fits =
      of_elements h (joined ds) (joined_each (IsOf shape) (λ m. m ≡ 0) ds each)
      (length-joined_arrays (IsOf shape) 0 ds each ∙ ap (λ m. m * 0) size) fits
  arrays_overflow (suc less) count of_elements (inl h) ds each size fits =
      let few : (count + n) * suc less < 2 ^ 64 = rw size at fits.0 in
      absurd (omega arith)
  arrays_overflow (suc less) count of_elements (inr h) ds each size fits =
      of_elements h (joined ds) (joined_each (IsOf shape) (λ m. m ≡ suc less) ds each)
      (length-joined_arrays (IsOf shape) (suc less) ds each ∙ ap (λ m. m * suc less) size) fits.1
