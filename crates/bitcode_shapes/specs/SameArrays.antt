-- All listings of a value hold the same numbers of arrays: if the value has only one listing, or if this is true for
-- the values in it.
use Rattle.std.proofs.Common.{◌≡◌, ℕ, zero, suc, ◌+◌, true, Option, None, List, [], ◌∷◌, Result, refl, sym, ◌∙◌, ap, ap₂}
use Rattle.std.specs.Prelude.{All, sum_by, ◌==◌, cond, ◌⊎◌}
use Rattle.std.proofs.Common.{inl, inr}
use Rattle.std.specs.List.{AllZip}
use Rattle.std.specs.List.Sorted.{IsPermutation}
use Rattle.std.proofs.lemmas.List.Elements.{All-head, All-tail}
use Rattle.std.proofs.lemmas.List.Sums.{sum_by-cons}
use Rattle.std.proofs.lemmas.List.Sorted.{IsPermutation-sym, IsPermutation-trans, All-permutation, sum_by-IsPermutation}
use Rattle.bitcode_shapes.specs.Datum.{Datum, list, choice, data_of, list_of, first_in, second_in}
use Rattle.bitcode_shapes.specs.Shape.{Shape, Shapes, no_shapes, shape_and, unit_shape, seq_shape, map_shape, array_shape, pair_shape, choice_shape}
use Rattle.bitcode_shapes.specs.ArrayCounts.{arrays_at, arrays_in, ListsSameArrays, VariantsListSameArrays}
use Rattle.bitcode_shapes.specs.Lawful.{Lawful}
use Rattle.bitcode_shapes.specs.Empty.{ListsUnit}
use Rattle.bitcode_shapes.specs.Pairs.{IsPairValue, ListsPair}
use Rattle.bitcode_shapes.specs.Lists.{ListsSequence}
use Rattle.bitcode_shapes.specs.LawfulLists.{list_of_data}
use Rattle.bitcode_shapes.specs.AnyOrder.{ListsInAnyOrder}
use Rattle.bitcode_shapes.specs.LawfulAnyOrder.{zip_follows}
use Rattle.bitcode_shapes.specs.Choices.{ListsChoice, ListsLast, IsVariantValue, ListsVariant, option_variant, result_variant}

-- ---- values with one listing, and values that correspond to others

pub one_listing_same_arrays : {T : Type 0} {shape : Shape} {is_value : T → Type 0} {lists : T → Datum → Type 0} {same : T → T → Type 0}
    → Lawful shape is_value lists same true → ListsSameArrays shape is_value lists
one_listing_same_arrays {shape = shape} lawful = record {
  at = λ t d e h l m way. ap (arrays_at shape way) (lawful.one_listing refl t d e h l m);
}

-- for a type whose values list one datum each, as numbers and texts do
pub one_datum_same_arrays : {T : Type 0} {datum : T → Datum} {shape : Shape} {is_value : T → Type 0} → ListsSameArrays shape is_value (λ t d. d ≡ datum t)
one_datum_same_arrays {shape = shape} = record { at = λ t d e h l m way. ap (arrays_at shape way) (l ∙ sym m) }

-- for a type without values
pub never_same_arrays : {T : Type 0} {shape : Shape} {is_value : T → Type 0} → ListsSameArrays shape is_value (λ t d. ⊥)
never_same_arrays = record { at = λ t d e h l m way. absurd l }

pub image_same_arrays : {T U : Type 0} (stands_for : T → U) {shape : Shape} {is_value : U → Type 0} {lists : U → Datum → Type 0}
    → ListsSameArrays shape is_value lists → ListsSameArrays shape (λ t. is_value (stands_for t)) (λ t d. lists (stands_for t) d)
image_same_arrays stands_for of_image = record { at = λ t d e h l m way. of_image.at (stands_for t) d e h l m way }

-- ---- pairs

module _ {A B : Type 0} {shape_a shape_b : Shape} {is_a : A → Type 0} {is_b : B → Type 0} {lists_a : A → Datum → Type 0} {lists_b : B → Datum → Type 0}
    (first : ListsSameArrays shape_a is_a lists_a) (second : ListsSameArrays shape_b is_b lists_b) where
  in_pair : (t : A × B) (d e : Datum) → IsPairValue is_a is_b t → ListsPair lists_a lists_b t d → ListsPair lists_a lists_b t e
      → (way : List ℕ) → arrays_at (pair_shape shape_a shape_b) way d ≡ arrays_at (pair_shape shape_a shape_b) way e
  in_pair t d e h l m [] = refl
  in_pair t d e h l m (zero ∷ way) =
      ap (λ x. arrays_at shape_a way (first_in x)) l.is ∙ first.at t.0 l.first m.first h.0 l.lists_first m.lists_first way
      ∙ ap (λ x. arrays_at shape_a way (first_in x)) (sym m.is)
  in_pair t d e h l m (suc place ∷ way) =
      ap (λ x. arrays_at shape_b way (second_in x)) l.is ∙ second.at t.1 l.second m.second h.1 l.lists_second m.lists_second way
      ∙ ap (λ x. arrays_at shape_b way (second_in x)) (sym m.is)

  pub pair_same_arrays : ListsSameArrays (pair_shape shape_a shape_b) (IsPairValue is_a is_b) (ListsPair lists_a lists_b)
  pair_same_arrays = record { at = in_pair }

-- ---- lists of data

-- the two hold equally many arrays at each node
abbrev pub HoldSameArrays : Shape → List Datum → List Datum → Type 0
HoldSameArrays shape ds es = (way : List ℕ) → sum_by (arrays_at shape way) ds ≡ sum_by (arrays_at shape way) es

-- lists of the shape `whole` hold equally many arrays if their elements, of the shape, do
abbrev pub FollowElements : Shape → Shape → Type 0
FollowElements whole shape =
    (ds es : List Datum) → HoldSameArrays shape ds es → (way : List ℕ) → arrays_at whole way (list (data_of ds)) ≡ arrays_at whole way (list (data_of es))

in_elements : (shape : Shape) (way : List ℕ) (ds es : List Datum) → HoldSameArrays shape ds es
    → sum_by (arrays_at shape way) (list_of (data_of ds)) ≡ sum_by (arrays_at shape way) (list_of (data_of es))
in_elements shape way ds es same =
    ap (sum_by (arrays_at shape way)) (list_of_data ds) ∙ same way ∙ ap (sum_by (arrays_at shape way)) (sym (list_of_data es))

seq_follows : (limit : Option ℕ) (shape : Shape) → FollowElements (seq_shape limit shape) shape
seq_follows limit shape ds es same way = in_elements shape way ds es same

array_follows : (size : ℕ) (shape : Shape) → FollowElements (array_shape size shape) shape
array_follows size shape ds es same [] = refl
array_follows size shape ds es same (place ∷ way) = in_elements shape way ds es same

map_follows : (key value : Shape) → FollowElements (map_shape key value) (pair_shape key value)
map_follows key value ds es same [] = refl
map_follows key value ds es same (zero ∷ way) = in_elements (pair_shape key value) (zero ∷ way) ds es same
map_follows key value ds es same (suc place ∷ way) = in_elements (pair_shape key value) (suc place ∷ way) ds es same

-- ---- values that hold elements: `items` lists them, and `is_whole` is the invariant

module _ {T : Type 0} {shape : Shape} {is_value : T → Type 0} {lists : T → Datum → Type 0} (element : ListsSameArrays shape is_value lists) where
  each_same_arrays : (way : List ℕ) (values : List T) (ds es : List Datum) → All is_value values → AllZip lists values ds → AllZip lists values es
      → sum_by (arrays_at shape way) ds ≡ sum_by (arrays_at shape way) es
  each_same_arrays way [] [] [] h y z = refl
  each_same_arrays way [] [] (e ∷ es) h y z = absurd z
  each_same_arrays way [] (d ∷ ds) es h y z = absurd y
  each_same_arrays way (t ∷ ts) [] es h y z = absurd y
  each_same_arrays way (t ∷ ts) (d ∷ ds) [] h y z = absurd z
  each_same_arrays way (t ∷ ts) (d ∷ ds) (e ∷ es) h y z =
      sum_by-cons (arrays_at shape way) d ds
      ∙ ap₂ (λ one more. one + more) (element.at t d e (All-head is_value t ts h) y.0 z.0 way)
      (each_same_arrays way ts ds es (All-tail is_value t ts h) y.1 z.1)
      ∙ sym (sum_by-cons (arrays_at shape way) e es)

  any_order_alike : (values : List T) (d e : Datum) → All is_value values → (l : ListsInAnyOrder lists values d) → (m : ListsInAnyOrder lists values e)
      → HoldSameArrays shape l.listing.elements m.listing.elements
  any_order_alike values d e h l m way =
      let across : IsPermutation l.order m.order = IsPermutation-trans l.order values m.order (IsPermutation-sym values l.order l.reordered) m.reordered in
      let f = zip_follows lists l.order m.order l.listing.elements across l.listing.each in
      sym (sum_by-IsPermutation (arrays_at shape way) l.listing.elements f.others f.moved)
      ∙ each_same_arrays way m.order f.others m.listing.elements (All-permutation is_value values m.order m.reordered h) f.zipped m.listing.each

  module _ {C : Type 0} (items : C → List T) (is_whole : C → Type 0) (each : (c : C) → is_whole c → All is_value (items c)) where
    sequence_same_arrays : (whole : Shape) → FollowElements whole shape → ListsSameArrays whole is_whole (λ c d. ListsSequence lists (items c) d)
    sequence_same_arrays whole follows = record {
      at = λ c d e h l m way.
          ap (arrays_at whole way) l.is
          ∙ follows l.elements m.elements (λ on. each_same_arrays on (items c) l.elements m.elements (each c h) l.each m.each) way
          ∙ ap (arrays_at whole way) (sym m.is);
    }

    -- in an internal order
    in_any_order_same_arrays : (whole : Shape) → FollowElements whole shape → ListsSameArrays whole is_whole (λ c d. ListsInAnyOrder lists (items c) d)
    in_any_order_same_arrays whole follows = record {
      at = λ c d e h l m way.
          ap (arrays_at whole way) l.listing.is
          ∙ follows l.listing.elements m.listing.elements (any_order_alike (items c) d e (each c h) l m) way
          ∙ ap (arrays_at whole way) (sym m.listing.is);
    }

    pub seq_same_arrays : (limit : Option ℕ) → ListsSameArrays (seq_shape limit shape) is_whole (λ c d. ListsSequence lists (items c) d)
    seq_same_arrays limit = sequence_same_arrays (seq_shape limit shape) (seq_follows limit shape)

    pub array_same_arrays : (size : ℕ) → ListsSameArrays (array_shape size shape) is_whole (λ c d. ListsSequence lists (items c) d)
    array_same_arrays size = sequence_same_arrays (array_shape size shape) (array_follows size shape)

    pub any_order_same_arrays : ListsSameArrays (seq_shape None shape) is_whole (λ c d. ListsInAnyOrder lists (items c) d)
    any_order_same_arrays = in_any_order_same_arrays (seq_shape None shape) (seq_follows None shape)

-- ---- maps

module _ {K X C : Type 0} {key value : Shape} {is_key : K → Type 0} {is_value : X → Type 0} {lists_key : K → Datum → Type 0} {lists_value : X → Datum → Type 0}
    (of_key : ListsSameArrays key is_key lists_key) (of_value : ListsSameArrays value is_value lists_value)
    (entries : C → List (K × X)) (is_whole : C → Type 0) (each : (c : C) → is_whole c → All (IsPairValue is_key is_value) (entries c)) where
  pub ordered_map_same_arrays : ListsSameArrays (map_shape key value) is_whole (λ c d. ListsSequence (ListsPair lists_key lists_value) (entries c) d)
  ordered_map_same_arrays = sequence_same_arrays (pair_same_arrays of_key of_value) entries is_whole each (map_shape key value) (map_follows key value)

  pub hashed_map_same_arrays : ListsSameArrays (map_shape key value) is_whole (λ c d. ListsInAnyOrder (ListsPair lists_key lists_value) (entries c) d)
  hashed_map_same_arrays = in_any_order_same_arrays (pair_same_arrays of_key of_value) entries is_whole each (map_shape key value) (map_follows key value)

-- ---- variants: the last alone, and the first with the rest

module _ {A : Type 0} {s : Shape} {is_a : A → Type 0} {lists_a : A → Datum → Type 0} (last : ListsSameArrays s is_a lists_a) where
  in_last : (t : A) (i j : ℕ) (d e : Datum) → is_a t → ListsLast lists_a t i d → ListsLast lists_a t j e
      → (i ≡ j) × ((way : List ℕ) → arrays_in (shape_and s no_shapes) i way d ≡ arrays_in (shape_and s no_shapes) i way e)
  in_last t zero zero d e h l m = (refl, last.at t d e h l m)
  in_last t zero (suc j) d e h l m = absurd m
  in_last t (suc i) j d e h l m = absurd l

  pub last_same_arrays : VariantsListSameArrays (shape_and s no_shapes) is_a (ListsLast lists_a)
  last_same_arrays = record { at = in_last }

module _ {A B : Type 0} {s : Shape} {ss : Shapes} {is_a : A → Type 0} {is_b : B → Type 0} {lists_a : A → Datum → Type 0} {lists_b : B → ℕ → Datum → Type 0}
    (first : ListsSameArrays s is_a lists_a) (rest : VariantsListSameArrays ss is_b lists_b) where
  in_variant : (t : A ⊎ B) (i j : ℕ) (d e : Datum) → IsVariantValue is_a is_b t
      → ListsVariant lists_a lists_b t i d → ListsVariant lists_a lists_b t j e
      → (i ≡ j) × ((way : List ℕ) → arrays_in (shape_and s ss) i way d ≡ arrays_in (shape_and s ss) i way e)
  in_variant (inl a) zero zero d e h l m = (refl, first.at a d e h l m)
  in_variant (inl a) zero (suc j) d e h l m = absurd m
  in_variant (inl a) (suc i) j d e h l m = absurd l
  in_variant (inr b) zero j d e h l m = absurd l
  in_variant (inr b) (suc i) zero d e h l m = absurd m
  in_variant (inr b) (suc i) (suc j) d e h l m =
      let found = rest.at b i j d e h l m in
      (ap suc found.0, found.1)

  pub first_same_arrays : VariantsListSameArrays (shape_and s ss) (IsVariantValue is_a is_b) (ListsVariant lists_a lists_b)
  first_same_arrays = record { at = in_variant }

-- ---- choices

same_in_variant : (of_variants : Shapes) (i j : ℕ) (d e : Datum) → (i ≡ j) × ((way : List ℕ) → arrays_in of_variants i way d ≡ arrays_in of_variants i way e)
    → (way : List ℕ) → arrays_at (choice_shape of_variants) way (choice i d) ≡ arrays_at (choice_shape of_variants) way (choice j e)
same_in_variant of_variants i j d e found [] = refl
same_in_variant of_variants i j d e found (place ∷ way) =
    ap (λ n. cond (i == place) n 0) (found.1 way) ∙ ap (λ k. cond (k == place) (arrays_in of_variants k way e) 0) found.0

pub choice_same_arrays : {T : Type 0} {shapes : Shapes} {is_value : T → Type 0} {lists : T → ℕ → Datum → Type 0} → VariantsListSameArrays shapes is_value lists
    → ListsSameArrays (choice_shape shapes) is_value (ListsChoice lists)
choice_same_arrays {shapes = shapes} variants = record {
  at = λ t d e h l m way.
      ap (arrays_at (choice_shape shapes) way) l.is
      ∙ same_in_variant shapes l.index m.index l.payload m.payload (variants.at t l.index m.index l.payload m.payload h l.lists_payload m.lists_payload) way
      ∙ ap (arrays_at (choice_shape shapes) way) (sym m.is);
}

pub option_same_arrays : {A : Type 0} {s : Shape} {is_a : A → Type 0} {lists_a : A → Datum → Type 0} → ListsSameArrays s is_a lists_a
    → ListsSameArrays (choice_shape (shape_and unit_shape (shape_and s no_shapes))) (λ (o : Option A). IsVariantValue (λ t. Unit {0}) is_a (option_variant o))
    (λ o d. ListsChoice (ListsVariant ListsUnit (ListsLast lists_a)) (option_variant o) d)
option_same_arrays some =
    image_same_arrays option_variant (choice_same_arrays (first_same_arrays one_datum_same_arrays (last_same_arrays some)))

pub result_same_arrays : {A B : Type 0} {s t : Shape} {is_a : A → Type 0} {is_b : B → Type 0} {lists_a : A → Datum → Type 0} {lists_b : B → Datum → Type 0}
    → ListsSameArrays s is_a lists_a → ListsSameArrays t is_b lists_b
    → ListsSameArrays (choice_shape (shape_and s (shape_and t no_shapes))) (λ (r : Result A B). IsVariantValue is_a is_b (result_variant r))
    (λ r d. ListsChoice (ListsVariant lists_a (ListsLast lists_b)) (result_variant r) d)
result_same_arrays ok err = image_same_arrays result_variant (choice_same_arrays (first_same_arrays ok (last_same_arrays err)))
