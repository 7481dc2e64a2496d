-- Several options are written as the variant of each, and then the values of those that have one.
use Rattle.std.proofs.Common.{◌≡◌, ℕ, ◌+◌, ◌<◌, List, [], ◌∷◌, ◌++◌, length, map, take, drop, set, slice_index_or, refl, sym, ◌∙◌, ap, ap₂, subst, append-nil, length-append, arith}
use Rattle.std.specs.Prelude.{Option, Some, None}
use Rattle.std.specs.List.{AllZip}
use Rattle.std.proofs.lemmas.List.{map-append, take-append-drop, take_more_set}
use Rattle.std.proofs.lemmas.List.Elements.{filter_map-append}
use Rattle.bitcode_shapes.specs.Datum.{Datum, unit, choice}
use Rattle.bitcode_shapes.specs.Shape.{Shape, choice_shape, shape_and, no_shapes, unit_shape}
use Rattle.bitcode_shapes.specs.Empty.{ListsUnit}
use Rattle.bitcode_shapes.specs.Choices.{ListsChoice, ListsLast, ListsVariant, option_variant}
use Rattle.bitcode_coder.specs.Columns.{Columns, no_columns, one, two, variants, beside, CountsFit}
use Rattle.bitcode_coder.specs.Spelling.{natural}
use Rattle.bitcode_coder.specs.Transposition.{payloads, variant_entry}
use Rattle.bitcode_coder.specs.Coder.{written_columns, JoinsEach, OverflowsWithEach}
use Rattle.bitcode_coder.proofs.EachLemmas.{next_behind, parts_more}
use Rattle.bitcode_parts.specs.Options.{option_index, values_in}
use Rattle.bitcode_parts.proofs.ChoiceLemmas.{payloads-same, payloads-other}

module _ {S A : Type 0} (of : S → Option A) (items : List S) (i : ℕ) (item : S) (here : i < length items) (is : item ≡ slice_index_or items i item) where
  pub no_value_more : of item ≡ None → values_in (map of (take (i + 1) items)) ≡ values_in (map of (take i items))
  no_value_more none =
      ap values_in (parts_more of items i item here is) ∙ filter_map-append (λ o. o) (map of (take i items)) (of item ∷ [])
      ∙ ap (λ o. values_in (map of (take i items)) ++ values_in (o ∷ [])) none ∙ append-nil (values_in (map of (take i items)))

  pub value_more : (a : A) → of item ≡ Some a → values_in (map of (take (i + 1) items)) ≡ values_in (map of (take i items)) ++ a ∷ []
  value_more a some =
      ap values_in (parts_more of items i item here is) ∙ filter_map-append (λ o. o) (map of (take i items)) (of item ∷ [])
      ∙ ap (λ o. values_in (map of (take i items)) ++ values_in (o ∷ [])) some

-- there is a value where one item has one
pub value_there : {S A : Type 0} (of : S → Option A) (items : List S) (i : ℕ) (item : S) (a : A) → i < length items → item ≡ slice_index_or items i item → of item ≡ Some a
    → 0 < length (values_in (map of items))
value_there of items i item a here is some =
    let before = map of (take i items) in
    let behind = map of (drop (i + 1) items) in
    let parted : map of items ≡ before ++ Some a ∷ behind =
    ap (map of) (sym (take-append-drop i items)) ∙ map-append of (take i items) (drop i items)
    ∙ ap (λ rest. before ++ rest) (next_behind of items i item here is ∙ ap (λ o. o ∷ behind) some) in
    let values : values_in (map of items) ≡ values_in before ++ a ∷ values_in behind =
    ap values_in parted ∙ filter_map-append (λ o. o) before (Some a ∷ behind) in
    simp (values, length-append) (omega arith)

-- one entry more was put behind the first ones
pub one_placed : {R A : Type 0} (value : R → A) (entries : List R) (i : ℕ) (entry : R) → i < length entries
    → map value (take (i + 1) (set entries i entry)) ≡ map value (take i entries) ++ value entry ∷ []
one_placed value entries i entry here = ap (map value) (take_more_set entries i entry here) ∙ map-append value (take i entries) (entry ∷ [])

module _ {A : Type 0} (lists : A → Datum → Type 0) where
  -- the data of options, whose values have these
  data_of_options : List (Option A) → List Datum → List Datum
  data_of_options [] ds = []
  data_of_options (None ∷ os) ds = choice 0 unit ∷ data_of_options os ds
  data_of_options (Some a ∷ os) [] = []
  data_of_options (Some a ∷ os) (d ∷ ds) = choice 1 d ∷ data_of_options os ds

  options_listed : (os : List (Option A)) (ds : List Datum) → AllZip lists (values_in os) ds
      → AllZip (λ o d. ListsChoice (ListsVariant ListsUnit (ListsLast lists)) (option_variant o) d) os (data_of_options os ds)
  unfolding data_of_options
  options_listed [] ds z = tt
  options_listed (None ∷ os) ds z = (record { index = 0; payload = unit; is = refl; lists_payload = refl }, options_listed os ds z)
  options_listed (Some a ∷ os) [] z = absurd z
  options_listed (Some a ∷ os) (d ∷ ds) z = (record { index = 1; payload = d; is = refl; lists_payload = z.0 }, options_listed os ds z.1)

  payloads_in : (os : List (Option A)) (ds : List Datum) → AllZip lists (values_in os) ds → payloads 1 (data_of_options os ds) ≡ ds
  unfolding data_of_options
  payloads_in [] [] z = refl
  payloads_in [] (d ∷ ds) z = absurd z
  payloads_in (None ∷ os) ds z = payloads-other 1 0 unit (data_of_options os ds) (λ e. omega arith) ∙ payloads_in os ds z
  payloads_in (Some a ∷ os) [] z = absurd z
  payloads_in (Some a ∷ os) (d ∷ ds) z = payloads-same 1 d (data_of_options os ds) ∙ ap (λ rest. d ∷ rest) (payloads_in os ds z.1)

  variants_in : (os : List (Option A)) (ds : List Datum) → AllZip lists (values_in os) ds
      → map variant_entry (data_of_options os ds) ≡ map natural (map option_index os)
  unfolding data_of_options
  variants_in [] ds z = refl
  variants_in (None ∷ os) ds z = ap (λ rest. natural 0 ∷ rest) (variants_in os ds z)
  variants_in (Some a ∷ os) [] z = absurd z
  variants_in (Some a ∷ os) (d ∷ ds) z = ap (λ rest. natural 1 ∷ rest) (variants_in os ds z.1)

  module _ (s : Shape) (os : List (Option A)) (entries : List ℕ) (b : Columns) where
    pub joins_options : (more : List ℕ) (c : Columns) → more ≡ entries ++ map option_index os → JoinsEach lists s (values_in os) b c
        → JoinsEach (λ o d. ListsChoice (ListsVariant ListsUnit (ListsLast lists)) (option_variant o) d) (choice_shape (shape_and unit_shape (shape_and s no_shapes))) os
        (two (one (variants 2) (map natural entries)) (two no_columns (two b no_columns))) (two (one (variants 2) (map natural more)) (two no_columns (two c no_columns)))
    joins_options more c pushed values = record {
      parts = data_of_options os values.parts;
      listings = options_listed os values.parts values.listings;
      joined =
          ap₂ two
          (ap (one (variants 2))
          (ap (map natural) pushed ∙ map-append natural entries (map option_index os)
          ∙ ap (λ rest. map natural entries ++ rest) (sym (variants_in os values.parts values.listings))))
          (ap (λ x. two no_columns (two x no_columns))
          (values.joined ∙ ap (λ ds. beside b (written_columns s ds)) (sym (payloads_in os values.parts values.listings))));
      fits = λ f. (tt, (tt, (values.fits f.1.1.0, tt)));
    }

    pub overflows_options : OverflowsWithEach lists s (values_in os) b
        → OverflowsWithEach (λ o d. ListsChoice (ListsVariant ListsUnit (ListsLast lists)) (option_variant o) d) (choice_shape (shape_and unit_shape (shape_and s no_shapes))) os
        (two (one (variants 2) (map natural entries)) (two no_columns (two b no_columns)))
    overflows_options values = record {
      parts = data_of_options os values.parts;
      listings = options_listed os values.parts values.listings;
      overflows = λ f.
          values.overflows (subst (λ ds. CountsFit (beside b (written_columns s ds))) (payloads_in os values.parts values.listings) f.1.1.0);
    }
