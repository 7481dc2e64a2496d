-- Values of one case, written by what they hold.
use Rattle.std.proofs.Common.{◌≡◌, ◌<◌, ◌^◌, ◌++◌, ◌∷◌, [], ◌+◌, ◌/◌, ℕ, Option, None, List, length, map, slice_get, All, refl, subst}
use Rattle.bitcode_coder.specs.LengthColumn.{length_bytes}
use Rattle.bitcode_shapes.specs.Datum.{Datum, pair}
use Rattle.bitcode_shapes.specs.Shape.{Shape, array_shape, map_shape, pair_shape, seq_shape, IsWithin}
use Rattle.bitcode_untyped.specs.declared.value.Value.{Value}
use Rattle.bitcode_schema.specs.Forms.{Content, fields_content, list_content, pair_content, both}
use Rattle.bitcode_schema.specs.Parts.{row_content}
use Rattle.bitcode_schema.specs.Views.{Hold, HasOther, elements_of, pairs_of, fields_of, key_in, value_in, under}
use Rattle.bitcode_schema.specs.Writing.{Writes, HasStranger}
use Rattle.bitcode_schema.proofs.ArrayWritingLemmas.{writes_arrays, stranger_in_arrays, stranger_of_other_size, writes_maps, stranger_in_maps}
use Rattle.bitcode_schema.proofs.ListWritingLemmas.{flat, sizes, writes_lists, stranger_among_elements, stranger_too_long}
use Rattle.bitcode_schema.proofs.PairWritingLemmas.{writes_pairs, stranger_first, stranger_second}
use Rattle.bitcode_schema.proofs.RowLemmas.{one_field, rows_pair, whole_rows, stranger_rows}
use Rattle.bitcode_schema.proofs.SeenLemmas.{writes_seen, stranger_seen, stranger_other, writes_as, stranger_as, writes_mapped, stranger_mapped, writes_where, stranger_where}

-- ---- lists and arrays

module _ (content : Content) (s : Shape) (vs : List Value) (lists : List (List Value)) (h : Hold elements_of vs lists) where
  module _ (size : ℕ) where
    pub whole_arrays : (parts : List Value) → parts ≡ flat lists → All (λ l. length l ≡ size) lists → length parts < 2 ^ 64 → (old new : List ℕ)
        → Writes content s parts old new → Writes (λ v. under (elements_of v) (list_content content)) (array_shape size s) vs old new
    whole_arrays parts joined sized few old new w =
        writes_seen elements_of (list_content content) (array_shape size s) vs lists h old new
        (writes_arrays content s size lists old new sized (subst (λ ps. length ps < 2 ^ 64) joined few) (subst (λ ps. Writes content s ps old new) joined w))

    pub stranger_part : (parts : List Value) → parts ≡ flat lists → HasStranger content s parts
        → HasStranger (λ v. under (elements_of v) (list_content content)) (array_shape size s) vs
    stranger_part parts joined stranger =
        stranger_seen elements_of (list_content content) (array_shape size s) vs lists h
        (stranger_in_arrays content s size lists (subst (HasStranger content s) joined stranger))

    pub stranger_sized : (All (λ l. length l ≡ size) lists → ⊥) → HasStranger (λ v. under (elements_of v) (list_content content)) (array_shape size s) vs
    stranger_sized other =
        stranger_seen elements_of (list_content content) (array_shape size s) vs lists h (stranger_of_other_size content s size lists other)

  module _ (capacity : Option ℕ) where
    pub whole_lists : (parts : List Value) → parts ≡ flat lists → All (λ l. IsWithin capacity (length l)) lists → (old middle new : List ℕ)
        → middle ≡ old ++ length_bytes (sizes lists) → Writes content s parts middle new
        → Writes (λ v. under (elements_of v) (list_content content)) (seq_shape capacity s) vs old new
    whole_lists parts joined within old middle new lengths w =
        writes_seen elements_of (list_content content) (seq_shape capacity s) vs lists h old new
        (writes_lists content s capacity lists old middle new within lengths (subst (λ ps. Writes content s ps middle new) joined w))

    pub stranger_element : (parts : List Value) → parts ≡ flat lists → HasStranger content s parts
        → HasStranger (λ v. under (elements_of v) (list_content content)) (seq_shape capacity s) vs
    stranger_element parts joined stranger =
        stranger_seen elements_of (list_content content) (seq_shape capacity s) vs lists h
        (stranger_among_elements content s capacity lists (subst (HasStranger content s) joined stranger))

    pub stranger_long : (All (λ l. IsWithin capacity (length l)) lists → ⊥)
        → HasStranger (λ v. under (elements_of v) (list_content content)) (seq_shape capacity s) vs
    stranger_long long =
        stranger_seen elements_of (list_content content) (seq_shape capacity s) vs lists h (stranger_too_long content s capacity lists long)

-- ---- maps

module _ (k v : Content) (s t : Shape) (vs : List Value) (maps : List (List (Value × Value))) (h : Hold pairs_of vs maps) (keys values : List Value)
    (are_keys : keys ≡ map key_in (flat maps)) (are_values : values ≡ map value_in (flat maps)) where
  abbrev entries : Value × Value → Option Datum
  entries e = both pair (k (key_in e)) (v (value_in e))

  pub whole_maps : (old first second new : List ℕ) → first ≡ old ++ length_bytes (sizes maps) → Writes k s keys first second → Writes v t values second new
      → Writes (λ u. under (pairs_of u) (list_content (pair_content k v))) (map_shape s t) vs old new
  whole_maps old first second new lengths w x =
      writes_seen pairs_of (list_content (pair_content k v)) (map_shape s t) vs maps h old new
      (writes_maps (list_content (pair_content k v)) s t maps old new
      (writes_lists (pair_content k v) (pair_shape s t) None maps old first new (λ i d lt. tt) lengths
      (writes_pairs (λ e. k (key_in e)) (λ e. v (value_in e)) s t (flat maps) first second new
      (writes_mapped k key_in s (flat maps) keys are_keys first second w) (writes_mapped v value_in t (flat maps) values are_values second new x))))

  pub stranger_key : HasStranger k s keys → HasStranger (λ u. under (pairs_of u) (list_content (pair_content k v))) (map_shape s t) vs
  stranger_key stranger =
      stranger_seen pairs_of (list_content (pair_content k v)) (map_shape s t) vs maps h
      (stranger_in_maps (list_content (pair_content k v)) s t maps
      (stranger_among_elements (pair_content k v) (pair_shape s t) None maps
      (stranger_first (λ e. k (key_in e)) (λ e. v (value_in e)) s t (flat maps) (stranger_mapped k key_in s (flat maps) keys are_keys stranger))))

  pub stranger_value : HasStranger v t values → HasStranger (λ u. under (pairs_of u) (list_content (pair_content k v))) (map_shape s t) vs
  stranger_value stranger =
      stranger_seen pairs_of (list_content (pair_content k v)) (map_shape s t) vs maps h
      (stranger_in_maps (list_content (pair_content k v)) s t maps
      (stranger_among_elements (pair_content k v) (pair_shape s t) None maps
      (stranger_second (λ e. k (key_in e)) (λ e. v (value_in e)) s t (flat maps) (stranger_mapped v value_in t (flat maps) values are_values stranger))))

-- ---- rows

module _ (c : Content) (s : Shape) (at : ℕ) (rows : List (List Value)) where
  pub writes_field : (parts : List Value) → Hold (λ row. slice_get row at) rows parts → (old new : List ℕ) → Writes c s parts old new
      → Writes (row_content (c ∷ []) at) s rows old new
  writes_field parts h old new w =
      writes_as (λ row. under (slice_get row at) c) (row_content (c ∷ []) at) (one_field c at) s s refl rows old new
      (writes_seen (λ row. slice_get row at) c s rows parts h old new w)

  pub stranger_field : (parts : List Value) → Hold (λ row. slice_get row at) rows parts → HasStranger c s parts
      → HasStranger (row_content (c ∷ []) at) s rows
  stranger_field parts h stranger =
      stranger_as (λ row. under (slice_get row at) c) (row_content (c ∷ []) at) (one_field c at) s s refl rows
      (stranger_seen (λ row. slice_get row at) c s rows parts h stranger)

  pub stranger_without : HasOther (λ row. slice_get row at) rows → HasStranger (row_content (c ∷ []) at) s rows
  stranger_without other =
      stranger_as (λ row. under (slice_get row at) c) (row_content (c ∷ []) at) (one_field c at) s s refl rows
      (stranger_other (λ row. slice_get row at) c s rows other)

module _ (front back : List Content) (s t : Shape) (at : ℕ) (rows : List (List Value)) (some : 1 < length (front ++ back))
    (half : length front ≡ length (front ++ back) / 2) where
  pub writes_halves : (old middle new : List ℕ) → Writes (row_content front at) s rows old middle
      → Writes (row_content back (at + length front)) t rows middle new → Writes (row_content (front ++ back) at) (pair_shape s t) rows old new
  writes_halves old middle new w x =
      writes_as (λ row. both pair (row_content front at row) (row_content back (at + length front) row)) (row_content (front ++ back) at)
      (λ row. rows_pair front back at row some half) (pair_shape s t) (pair_shape s t) refl rows old new
      (writes_pairs (row_content front at) (row_content back (at + length front)) s t rows old middle new w x)

  pub stranger_front : HasStranger (row_content front at) s rows → HasStranger (row_content (front ++ back) at) (pair_shape s t) rows
  stranger_front stranger =
      stranger_as (λ row. both pair (row_content front at row) (row_content back (at + length front) row)) (row_content (front ++ back) at)
      (λ row. rows_pair front back at row some half) (pair_shape s t) (pair_shape s t) refl rows
      (stranger_first (row_content front at) (row_content back (at + length front)) s t rows stranger)

  pub stranger_back : HasStranger (row_content back (at + length front)) t rows → HasStranger (row_content (front ++ back) at) (pair_shape s t) rows
  stranger_back stranger =
      stranger_as (λ row. both pair (row_content front at row) (row_content back (at + length front) row)) (row_content (front ++ back) at)
      (λ row. rows_pair front back at row some half) (pair_shape s t) (pair_shape s t) refl rows
      (stranger_second (row_content front at) (row_content back (at + length front)) s t rows stranger)

module _ (cs : List Content) (s : Shape) (vs : List Value) (rows : List (List Value)) (h : Hold fields_of vs rows) where
  pub writes_rows : All (λ row. length row ≡ length cs) rows → (old new : List ℕ) → Writes (row_content cs 0) s rows old new
      → Writes (λ v. under (fields_of v) (fields_content cs)) s vs old new
  writes_rows sized old new w =
      writes_seen fields_of (fields_content cs) s vs rows h old new
      (writes_where (row_content cs 0) (fields_content cs) s rows (whole_rows cs rows sized) old new w)

  pub stranger_in_rows : All (λ row. length row ≡ length cs) rows → HasStranger (row_content cs 0) s rows
      → HasStranger (λ v. under (fields_of v) (fields_content cs)) s vs
  stranger_in_rows sized stranger =
      stranger_seen fields_of (fields_content cs) s vs rows h
      (stranger_where (row_content cs 0) (fields_content cs) s rows (whole_rows cs rows sized) stranger)

  pub stranger_of_size : (All (λ row. length row ≡ length cs) rows → ⊥) → HasStranger (λ v. under (fields_of v) (fields_content cs)) s vs
  stranger_of_size other = stranger_seen fields_of (fields_content cs) s vs rows h (stranger_rows cs s rows other)
