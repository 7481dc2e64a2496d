-- Where all listings of a value have the same numbers of arrays, so have their columns; and these are lengths in all of them, or in none.
use Rattle.std.proofs.Common.{◌≡◌, ℕ, zero, suc, ◌+◌, Bool, true, false, cond, List, [], ◌∷◌, length, map, filter, None, ◌==◌, refl, sym, ◌∙◌, ap, ap₂, subst, arith, eqb-true}
use Rattle.std.specs.Prelude.{◌↔◌}
use Rattle.std.specs.List.{flat_map, sum, sum_by}
use Rattle.std.proofs.lemmas.List.Concat.{flat_map-cons}
use Rattle.std.proofs.lemmas.List.Sums.{sum-map, sum_by-append, sum_by-cons}
use Rattle.std.proofs.lemmas.Simd.{map-map}
use Rattle.bitcode_shapes.specs.Datum.{Datum, elements_in, first_in, second_in, variant_in, payload_in}
use Rattle.bitcode_shapes.specs.Shape.{Shape, Shapes, unit_shape, never_shape, bool_shape, number_shape, float_shape, text_shape, raw_shape, seq_shape, map_shape, array_shape, pair_shape, choice_shape, admitted_shape, no_shapes, shape_and, variant_count}
use Rattle.bitcode_shapes.specs.ArrayCounts.{arrays_at, arrays_in, ListsSameArrays}
use Rattle.bitcode_shapes.specs.SameArrays.{HoldSameArrays}
use Rattle.bitcode_coder.specs.Columns.{Columns, lengths, variants, no_columns, one, two, arrays, CountsFit}
use Rattle.bitcode_coder.specs.Transposition.{columns_of, payload_columns, joined, payloads, array_columns}
use Rattle.bitcode_derive.specs.Whole.{columns_of_one}

-- ---- sums over what is in data

sum_by-map : {A B : Type 0} (f : B → ℕ) (g : A → B) (xs : List A) → sum_by f (map g xs) ≡ sum_by (λ x. f (g x)) xs
sum_by-map f g xs = sym (sum-map f (map g xs)) ∙ ap sum (map-map f g xs) ∙ sum-map (λ x. f (g x)) xs

sum_by-flat_map : {A B : Type 0} (f : B → ℕ) (g : A → List B) (xs : List A) → sum_by f (flat_map g xs) ≡ sum_by (λ x. sum_by f (g x)) xs
sum_by-flat_map f g [] = refl
sum_by-flat_map f g (x ∷ xs) =
    ap (sum_by f) (flat_map-cons g x xs)
    ∙ sum_by-append f (g x) (flat_map g xs)
    ∙ ap (λ n. sum_by f (g x) + n) (sum_by-flat_map f g xs)
    ∙ sym (sum_by-cons (λ y. sum_by f (g y)) x xs)

sum_by-1 : {A : Type 0} (xs : List A) → sum_by (λ x. 1) xs ≡ length xs
sum_by-1 [] = refl
sum_by-1 (x ∷ xs) = omega (arith, sum_by-cons (λ y. 1) x xs, sum_by-1 xs)

in_parts : (f : Datum → ℕ) (part : Datum → Datum) (ds es : List Datum) → sum_by (λ d. f (part d)) ds ≡ sum_by (λ d. f (part d)) es
    → sum_by f (map part ds) ≡ sum_by f (map part es)
in_parts f part ds es same = sum_by-map f part ds ∙ same ∙ sym (sum_by-map f part es)

in_joined : (f : Datum → ℕ) (ds es : List Datum) → sum_by (λ d. sum_by f (elements_in d)) ds ≡ sum_by (λ d. sum_by f (elements_in d)) es
    → sum_by f (joined ds) ≡ sum_by f (joined es)
in_joined f ds es same = sum_by-flat_map f elements_in ds ∙ same ∙ sym (sum_by-flat_map f elements_in es)

module _ (shapes : Shapes) (place : ℕ) (way : List ℕ) where
  -- by whether the first datum is of the variant
  payload_arrays-cons : (b : Bool) (d : Datum) (ds : List Datum) → (variant_in d == place) ≡ b
      → sum_by (arrays_in shapes place way) (map payload_in (cond b (d ∷ ds) ds))
      ≡ cond b (arrays_in shapes (variant_in d) way (payload_in d)) 0 + sum_by (arrays_in shapes place way) (map payload_in ds)
  payload_arrays-cons true d ds e =
      sum_by-cons (arrays_in shapes place way) (payload_in d) (map payload_in ds)
      ∙ ap (λ v. arrays_in shapes v way (payload_in d) + sum_by (arrays_in shapes place way) (map payload_in ds)) (sym (eqb-true _ _ e))
  payload_arrays-cons false d ds e = omega arith

  payload_arrays : (ds : List Datum) → sum_by (arrays_in shapes place way) (payloads place ds) ≡ sum_by (arrays_at (choice_shape shapes) (place ∷ way)) ds
  payload_arrays [] = refl
  payload_arrays (d ∷ ds) =
      payload_arrays-cons (variant_in d == place) d (filter (λ e. variant_in e == place) ds) refl
      ∙ ap (λ n. arrays_at (choice_shape shapes) (place ∷ way) d + n) (payload_arrays ds)
      ∙ sym (sum_by-cons (arrays_at (choice_shape shapes) (place ∷ way)) d ds)

-- ---- numbers of arrays in columns

-- the numbers of arrays at each node of the columns: their entries are left out
abbrev pub array_counts : Columns → Columns
array_counts no_columns = no_columns
array_counts (one kind entries) = one kind []
array_counts (two first second) = two (array_counts first) (array_counts second)
array_counts (arrays size count elements) = arrays size count (array_counts elements)

CountsFit-array_counts : (a : Columns) → CountsFit (array_counts a) ↔ CountsFit a
CountsFit-array_counts no_columns = (λ h. h, λ h. h)
CountsFit-array_counts (one kind entries) = (λ h. h, λ h. h)
CountsFit-array_counts (two first second) = (
  λ h. ((CountsFit-array_counts first).0 h.0, (CountsFit-array_counts second).0 h.1),
  λ h. ((CountsFit-array_counts first).1 h.0, (CountsFit-array_counts second).1 h.1),
)
CountsFit-array_counts (arrays size count elements) = (
  λ h. (h.0, (CountsFit-array_counts elements).0 h.1),
  λ h. (h.0, (CountsFit-array_counts elements).1 h.1),
)

array_counts-array_columns : (size count : ℕ) (a : Columns) → array_counts (array_columns size count a) ≡ array_columns size count (array_counts a)
array_counts-array_columns zero count a = refl
array_counts-array_columns (suc size) count a = refl

-- the payloads of each variant from the index on hold as many arrays at each node
abbrev HoldSamePayloads : Shapes → ℕ → List Datum → List Datum → Type 0
HoldSamePayloads shapes index ds es = (place variant : ℕ) (way : List ℕ) → variant ≡ place + index
    → sum_by (arrays_in shapes place way) (payloads variant ds) ≡ sum_by (arrays_in shapes place way) (payloads variant es)

all_payloads : (shapes : Shapes) (ds es : List Datum) → HoldSameArrays (choice_shape shapes) ds es → HoldSamePayloads shapes 0 ds es
all_payloads shapes ds es same place variant way at =
    let is : place ≡ variant = omega arith in
    subst (λ v. sum_by (arrays_in shapes place way) (payloads v ds) ≡ sum_by (arrays_in shapes place way) (payloads v es)) is
    (payload_arrays shapes place way ds ∙ same (place ∷ way) ∙ sym (payload_arrays shapes place way es))

mutual
  -- data that hold as many arrays at each node have columns of as many
  pub array_counts-columns_of : (shape : Shape) (ds es : List Datum) → HoldSameArrays shape ds es
      → array_counts (columns_of shape ds) ≡ array_counts (columns_of shape es)
  array_counts-columns_of unit_shape ds es same = refl
  array_counts-columns_of never_shape ds es same = refl
  array_counts-columns_of bool_shape ds es same = refl
  array_counts-columns_of (number_shape width signed allowed) ds es same = refl
  array_counts-columns_of (float_shape format) ds es same = refl
  array_counts-columns_of (text_shape limit) ds es same = refl
  array_counts-columns_of raw_shape ds es same = refl
  array_counts-columns_of (seq_shape limit element) ds es same =
      ap (two (one (lengths limit) []))
      (array_counts-columns_of element (joined ds) (joined es) (λ way. in_joined (arrays_at element way) ds es (same way)))
  array_counts-columns_of (map_shape key value) ds es same =
      ap₂ (λ keys values. two (one (lengths None) []) (two keys values))
      (array_counts-columns_of key (map first_in (joined ds)) (map first_in (joined es))
      (λ way. in_parts (arrays_at key way) first_in (joined ds) (joined es) (in_joined (λ p. arrays_at key way (first_in p)) ds es (same (0 ∷ way)))))
      (array_counts-columns_of value (map second_in (joined ds)) (map second_in (joined es))
      (λ way. in_parts (arrays_at value way) second_in (joined ds) (joined es) (in_joined (λ p. arrays_at value way (second_in p)) ds es (same (1 ∷ way)))))
  array_counts-columns_of (array_shape size element) ds es same =
      array_counts-array_columns size (length ds) (columns_of element (joined ds))
      ∙ ap₂ (array_columns size) (sym (sum_by-1 ds) ∙ same [] ∙ sum_by-1 es)
      (array_counts-columns_of element (joined ds) (joined es) (λ way. in_joined (arrays_at element way) ds es (same (0 ∷ way))))
      ∙ sym (array_counts-array_columns size (length es) (columns_of element (joined es)))
  array_counts-columns_of (pair_shape first second) ds es same =
      ap₂ two
      (array_counts-columns_of first (map first_in ds) (map first_in es) (λ way. in_parts (arrays_at first way) first_in ds es (same (0 ∷ way))))
      (array_counts-columns_of second (map second_in ds) (map second_in es) (λ way. in_parts (arrays_at second way) second_in ds es (same (1 ∷ way))))
  array_counts-columns_of (choice_shape shapes) ds es same =
      ap (two (one (variants (variant_count shapes)) [])) (array_counts-payload_columns shapes 0 ds es (all_payloads shapes ds es same))
  array_counts-columns_of (admitted_shape admits shape) ds es same = array_counts-columns_of shape ds es same

  array_counts-payload_columns : (shapes : Shapes) (index : ℕ) (ds es : List Datum) → HoldSamePayloads shapes index ds es
      → array_counts (payload_columns shapes index ds) ≡ array_counts (payload_columns shapes index es)
  array_counts-payload_columns no_shapes index ds es same = refl
  array_counts-payload_columns (shape_and s ss) index ds es same =
      ap₂ two
      (array_counts-columns_of s (payloads index ds) (payloads index es) (λ way. same 0 index way (omega arith)))
      (array_counts-payload_columns ss (suc index) ds es (λ place variant way at. same (suc place) variant way (omega arith)))

-- ---- listings of one value

module _ {T : Type 0} {shape : Shape} {is_value : T → Type 0} {lists : T → Datum → Type 0} (alike : ListsSameArrays shape is_value lists) where
  pub same_counts : (t : T) (d e : Datum) → is_value t → lists t d → lists t e → array_counts (columns_of_one shape d) ≡ array_counts (columns_of_one shape e)
  same_counts t d e v h k = array_counts-columns_of shape (d ∷ []) (e ∷ []) (λ way. ap (λ n. 0 + n) (alike.at t d e v h k way))

  -- where the numbers of one listing are lengths, so are those of any other
  pub counts_fit : (t : T) (d e : Datum) → is_value t → lists t d → lists t e → CountsFit (columns_of_one shape d) → CountsFit (columns_of_one shape e)
  counts_fit t d e v h k fits =
      (CountsFit-array_counts (columns_of_one shape e)).0 (subst CountsFit (same_counts t d e v h k) ((CountsFit-array_counts (columns_of_one shape d)).1 fits))
