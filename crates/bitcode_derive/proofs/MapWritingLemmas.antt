-- Data of maps are written as the lengths of each, the keys of all and the values of all.
use Rattle.std.proofs.Common.{◌≡◌, ℕ, suc, List, [], ◌∷◌, ◌++◌, length, map, refl, sym, ◌∙◌, ap, ap₂, subst, Result, Ok, Err, OnOk}
use Rattle.std.specs.Prelude.{None}
use Rattle.std.specs.List.{AllZip}
use Rattle.std.specs.Map.{keys_of, values_of}
use Rattle.std.proofs.lemmas.List.{map-append, length-map}
use Rattle.bitcode_shapes.specs.Datum.{Datum, list, data_of, first_in, second_in}
use Rattle.bitcode_shapes.specs.Shape.{Shape, map_shape}
use Rattle.bitcode_shapes.specs.Lists.{ListsSequence}
use Rattle.bitcode_shapes.specs.Pairs.{ListsPair}
use Rattle.bitcode_shapes.specs.LawfulLists.{list_of_data, zip_length}
use Rattle.bitcode_coder.specs.Columns.{Columns, lengths, one, two, beside, CountsFit}
use Rattle.bitcode_coder.specs.Spelling.{natural}
use Rattle.bitcode_coder.specs.Coder.{written_columns, JoinsListing, OverflowsWithListing, JoinsEach, OverflowsWithEach}
use Rattle.bitcode_tuples.specs.Pairs.{pairs_of}
use Rattle.bitcode_parts.proofs.ListWritingLemmas.{elements_again}

pub on_ok_both : {T E : Type 0} {A B C : Type 0} (result : Result T E) → (A → B → C) → OnOk result A → OnOk result B → OnOk result C
on_ok_both (Ok t) f a b = f a b
on_ok_both (Err e) f a b = tt

-- ---- keys and values, as pairs

pub keys-pairs_of : (ks vs : List Datum) → length ks ≡ length vs → map first_in (pairs_of ks vs) ≡ ks
keys-pairs_of [] vs e = refl
keys-pairs_of (k ∷ ks) [] e = absurd cc
keys-pairs_of (k ∷ ks) (v ∷ vs) e = ap (λ rest. k ∷ rest) (keys-pairs_of ks vs cc)

pub values-pairs_of : (ks vs : List Datum) → length ks ≡ length vs → map second_in (pairs_of ks vs) ≡ vs
values-pairs_of [] [] e = refl
values-pairs_of [] (v ∷ vs) e = absurd cc
values-pairs_of (k ∷ ks) [] e = absurd cc
values-pairs_of (k ∷ ks) (v ∷ vs) e = ap (λ rest. v ∷ rest) (values-pairs_of ks vs cc)

pub length-pairs_of : (ks vs : List Datum) → length ks ≡ length vs → length (pairs_of ks vs) ≡ length ks
length-pairs_of [] vs e = refl
length-pairs_of (k ∷ ks) [] e = absurd cc
length-pairs_of (k ∷ ks) (v ∷ vs) e = ap suc (length-pairs_of ks vs cc)

module _ {K X : Type 0} (lists_key : K → Datum → Type 0) (lists_value : X → Datum → Type 0) where
  pairs_listed : (es : List (K × X)) (ks vs : List Datum) → AllZip lists_key (keys_of es) ks → AllZip lists_value (values_of es) vs
      → AllZip (ListsPair lists_key lists_value) es (pairs_of ks vs)
  pairs_listed [] [] vs y z = tt
  pairs_listed [] (k ∷ ks) vs y z = absurd y
  pairs_listed (e ∷ es) [] vs y z = absurd y
  pairs_listed (e ∷ es) (k ∷ ks) [] y z = absurd z
  pairs_listed (e ∷ es) (k ∷ ks) (v ∷ vs) y z =
      (record { first = k; second = v; is = refl; lists_first = y.0; lists_second = z.0 }, pairs_listed es ks vs y.1 z.1)

  as_many : (es : List (K × X)) (ks vs : List Datum) → AllZip lists_key (keys_of es) ks → AllZip lists_value (values_of es) vs → length ks ≡ length vs
  as_many es ks vs y z =
      sym (zip_length lists_key (keys_of es) ks y) ∙ length-map es (λ e. e.0) ∙ sym (length-map es (λ e. e.1)) ∙ zip_length lists_value (values_of es) vs z

-- ---- the columns of one map

as_map : List Datum → List Datum → Datum
as_map ks vs = list (data_of (pairs_of ks vs))

map_columns : (key value : Shape) (ks vs : List Datum) → length ks ≡ length vs
    → written_columns (map_shape key value) (as_map ks vs ∷ []) ≡ two (one (lengths None) (natural (length ks) ∷ [])) (two (written_columns key ks) (written_columns value vs))
unfolding as_map
map_columns key value ks vs e =
    let again = elements_again (pairs_of ks vs) in
    ap₂ two
    (ap (λ n. one (lengths None) (natural n ∷ [])) (ap length (list_of_data (pairs_of ks vs)) ∙ length-pairs_of ks vs e))
    (ap₂ two
    (ap (written_columns key) (ap (map first_in) again ∙ keys-pairs_of ks vs e))
    (ap (written_columns value) (ap (map second_in) again ∙ values-pairs_of ks vs e)))

module _ {K X U : Type 0} (key value : Shape) (lists_key : K → Datum → Type 0) (lists_value : X → Datum → Type 0) (lists_whole : U → Datum → Type 0)
    (whole : Shape) (same_shape : whole ≡ map_shape key value) (t : U) (entries : List (K × X))
    (listed : (d : Datum) → ListsSequence (ListsPair lists_key lists_value) entries d → lists_whole t d) (old_lengths : List ℕ) (old_keys old_values : Columns) where
  abbrev old_map : Columns
  old_map = two (one (lengths None) (map natural old_lengths)) (two old_keys old_values)

  map_listed : (ks vs : List Datum) → AllZip lists_key (keys_of entries) ks → AllZip lists_value (values_of entries) vs → lists_whole t (as_map ks vs)
  unfolding as_map
  map_listed ks vs y z = listed (as_map ks vs) (record { elements = pairs_of ks vs; is = refl; each = pairs_listed lists_key lists_value entries ks vs y z })

  whole_columns : (ks vs : List Datum) → AllZip lists_key (keys_of entries) ks → AllZip lists_value (values_of entries) vs
      → written_columns whole (as_map ks vs ∷ []) ≡ two (one (lengths None) (natural (length entries) ∷ [])) (two (written_columns key ks) (written_columns value vs))
  whole_columns ks vs y z =
      ap (λ (shape : Shape). written_columns shape (as_map ks vs ∷ [])) same_shape
      ∙ map_columns key value ks vs (as_many lists_key lists_value entries ks vs y z)
      ∙ ap (λ n. two (one (lengths None) (natural n ∷ [])) (two (written_columns key ks) (written_columns value vs)))
      (sym (zip_length lists_key (keys_of entries) ks y) ∙ length-map entries (λ e. e.0))

  -- the length of a map was written, its keys and its values
  pub joins_map : (new_lengths : List ℕ) (new_keys new_values : Columns) → new_lengths ≡ old_lengths ++ length entries ∷ []
      → JoinsEach lists_key key (keys_of entries) old_keys new_keys → JoinsEach lists_value value (values_of entries) old_values new_values
      → JoinsListing lists_whole whole t old_map (two (one (lengths None) (map natural new_lengths)) (two new_keys new_values))
  joins_map new_lengths new_keys new_values grown ks vs = record {
    datum = as_map ks.parts vs.parts;
    listing = map_listed ks.parts vs.parts ks.listings vs.listings;
    joined =
        ap₂ two
        (ap (one (lengths None)) (ap (map natural) grown ∙ map-append natural old_lengths (length entries ∷ [])))
        (ap₂ two ks.joined vs.joined)
        ∙ ap (beside old_map) (sym (whole_columns ks.parts vs.parts ks.listings vs.listings));
    fits = λ f. (tt, (ks.fits f.1.0, vs.fits f.1.1));
  }

  -- the keys pass, and so does the map
  pub overflows_keys : (vs : List Datum) → AllZip lists_value (values_of entries) vs → OverflowsWithEach lists_key key (keys_of entries) old_keys
      → OverflowsWithListing lists_whole whole t old_map
  overflows_keys vs z ks = record {
    datum = as_map ks.parts vs;
    listing = map_listed ks.parts vs ks.listings z;
    overflows = λ f. ks.overflows (subst (λ added. CountsFit (beside old_map added)) (whole_columns ks.parts vs ks.listings z) f).1.0;
  }

  -- the values pass, and so does the map
  pub overflows_values : (ks : List Datum) → AllZip lists_key (keys_of entries) ks → OverflowsWithEach lists_value value (values_of entries) old_values
      → OverflowsWithListing lists_whole whole t old_map
  overflows_values ks y vs = record {
    datum = as_map ks vs.parts;
    listing = map_listed ks vs.parts y vs.listings;
    overflows = λ f. vs.overflows (subst (λ added. CountsFit (beside old_map added)) (whole_columns ks vs.parts y vs.listings) f).1.1;
  }
