-- The records of pairs, sequences, arrays, choices, enums without payloads, and what has a fixed capacity.
use Rattle.std.proofs.Common.{◌≡◌, ◌∙◌, ℕ, Bool, None, Some, List, ◌∷◌, ◌++◌, ap, length, refl, sym}
use Rattle.std.specs.Prelude.{◌^◌, ◌<◌, ◌&&◌, slice_get}
use Rattle.std.specs.declared.alloc.Global.{Global}
use Rattle.std.specs.declared.cmp.Ordering.{Ordering}
use Rattle.std.specs.Ordering.{ordering_then}
use Rattle.std.specs.declared.option.Option.{Option}
use Rattle.std.specs.declared.result.Result.{Result}
use Rattle.std.proofs.lemmas.Bool.{and_from}
use Rattle.arrayvec.specs.ArrayString.{ArrayString}
use Rattle.arrayvec.specs.ArrayVec.{ArrayVec}
use Rattle.bitcode_shapes.specs.Arrays.{IsArrayValue, array_lawful, array_makeable}
use Rattle.bitcode_shapes.specs.BareVariants.{AreSomeInOrder}
use Rattle.bitcode_shapes.specs.Choices.{option_variant, result_variant}
use Rattle.bitcode_shapes.specs.CompareAlike.{both_alike, images_alike, naturals_alike, options_alike, results_alike, sequences_alike, texts_alike}
use Rattle.bitcode_shapes.specs.DataOf.{DataOf, data_of, key_as}
use Rattle.bitcode_shapes.specs.Datum.{choice, text, unit}
use Rattle.bitcode_shapes.specs.FieldsInOrder.{from_first, joined_ands, joined_thens}
use Rattle.bitcode_shapes.specs.FixedCapacity.{IsWithinCapacity, array_string_lawful, array_string_makeable, array_vec_lawful, array_vec_makeable}
use Rattle.bitcode_shapes.specs.KeyLaws.{bares_equal, options_equal, results_equal, sequences_equal, texts_equal}
use Rattle.bitcode_shapes.specs.LawfulBareVariants.{bare_lawful, bare_makeable}
use Rattle.bitcode_shapes.specs.LawfulChoices.{option_again, option_found, option_lawful, option_makeable, result_again, result_found, result_lawful, result_makeable}
use Rattle.bitcode_shapes.specs.LawfulLists.{seq_lawful, seq_makeable}
use Rattle.bitcode_shapes.specs.LawfulPairs.{pair_lawful, pair_makeable}
use Rattle.bitcode_shapes.specs.SameArrays.{array_same_arrays, one_datum_same_arrays, option_same_arrays, pair_same_arrays, result_same_arrays, seq_same_arrays}
use Rattle.bitcode_shapes.specs.SameData.{choices_same_data, first_same_data, images_same_data, last_same_data, one_datum, pairs_same_data, sequences_same_data}
use Rattle.bitcode_shapes.specs.SameIsOne.{bares_are_one, exactly, images_exact, inexact, lists_exact, ones_exact, pairs_exact, variants_exact}

abbrev pub pair_data : {A B : Type 0} → DataOf A → DataOf B → DataOf (A × B)
pair_data a b =
    data_of
    (pair_lawful a.shape b.shape a.is_value b.is_value a.lists b.lists a.same b.same a.in_order b.in_order a.lawful b.lawful)
    (pair_makeable a.shape b.shape a.is_value b.is_value a.lists b.lists a.same b.same a.makes b.makes a.makeable b.makeable)
    (pair_same_arrays a.same_arrays b.same_arrays)
    (pairs_same_data a.same_data b.same_data) (pairs_exact a.are_exact b.are_exact)
    (both_alike (images_alike (λ t. t.0) a.alike) (images_alike (λ t. t.1) b.alike))
    (λ t u h i s. and_from (a.eq t.0 u.0) (b.eq t.1 u.1) (a.tells t.0 u.0 h.0 i.0 s.0) (b.tells t.1 u.1 h.1 i.1 s.1))

-- a tuple of three or more fields corresponds to the pair of its halves; what the fields of each half answer is given,
-- since `==` and the order of a tuple take one field after the other
abbrev pub tuple_data : {T : Type 0} (of : DataOf T) (ands : T → T → (Bool × List Bool) × (Bool × List Bool)) (thens : T → T → (Ordering × List Ordering) × (Ordering × List Ordering))
    → ((t u : T) → of.eq t u ≡ (from_first ◌&&◌ (ands t u).0.0 (ands t u).0.1 && from_first ◌&&◌ (ands t u).1.0 (ands t u).1.1))
    → ((t u : T) → of.cmp t u ≡ ordering_then (from_first ordering_then (thens t u).0.0 (thens t u).0.1) (from_first ordering_then (thens t u).1.0 (thens t u).1.1))
    → DataOf T
tuple_data of ands thens same_eq same_cmp =
    key_as of
    (λ t u. from_first ◌&&◌ (ands t u).0.0 ((ands t u).0.1 ++ ((ands t u).1.0 ∷ (ands t u).1.1)))
    (λ t u. from_first ordering_then (thens t u).0.0 ((thens t u).0.1 ++ ((thens t u).1.0 ∷ (thens t u).1.1)))
    (λ t u. joined_ands (ands t u).0.0 (ands t u).0.1 (ands t u).1.0 (ands t u).1.1 ∙ sym (same_eq t u))
    (λ t u. joined_thens (thens t u).0.0 (thens t u).0.1 (thens t u).1.0 (thens t u).1.1 ∙ sym (same_cmp t u))

-- a container of any number of elements, front to back
abbrev pub seq_data : {A C : Type 0} → DataOf A → (items : C → List A) → (Global → (values : List A) → length values < 2 ^ 63 → (c : C) × (items c ≡ values)) → DataOf C
seq_data a items build =
    data_of
    (seq_lawful a.shape a.is_value a.lists a.same items a.in_order a.lawful)
    (seq_makeable a.shape a.is_value a.lists a.same items a.makes build a.makeable)
    (seq_same_arrays a.same_arrays items _ (λ c each. each) None)
    (sequences_same_data a.same_data items _ (λ c each. each)) inexact
    (sequences_alike items a.alike)
    (sequences_equal a.tells items _ (λ c each. each))

abbrev pub array_data : {A : Type 0} (size : ℕ) → DataOf A → DataOf (List A)
array_data size a =
    data_of
    (array_lawful size a.shape a.is_value a.lists a.same a.in_order a.lawful)
    (array_makeable size a.shape a.is_value a.lists a.same a.makes a.makeable)
    (array_same_arrays a.same_arrays (λ values. values) (IsArrayValue size a.is_value) (λ values h. h.each) size)
    (sequences_same_data a.same_data (λ values. values) (IsArrayValue size a.is_value) (λ values h. h.each))
    (lists_exact a.are_exact (IsArrayValue size a.is_value) (λ values h. h.each))
    (sequences_alike (λ values. values) a.alike)
    (sequences_equal a.tells (λ values. values) (IsArrayValue size a.is_value) (λ values h. h.each))

-- ---- with a fixed capacity

abbrev pub array_vec_data : {A : Type 0} (capacity : ℕ) → DataOf A → DataOf (ArrayVec A)
array_vec_data capacity a =
    data_of
    (array_vec_lawful capacity a.shape a.is_value a.lists a.same a.in_order a.lawful)
    (array_vec_makeable capacity a.shape a.is_value a.lists a.same a.makes a.makeable)
    (seq_same_arrays a.same_arrays (λ v. v.items) (λ v. IsWithinCapacity capacity a.is_value v.items) (λ v h. h.each) (Some capacity))
    (sequences_same_data a.same_data (λ v. v.items) (λ v. IsWithinCapacity capacity a.is_value v.items) (λ v h. h.each)) inexact
    (sequences_alike (λ v. v.items) a.alike)
    (sequences_equal a.tells (λ v. v.items) (λ v. IsWithinCapacity capacity a.is_value v.items) (λ v h. h.each))

abbrev pub array_string_data : (capacity : ℕ) → DataOf ArrayString
array_string_data capacity =
    data_of (array_string_lawful capacity) (array_string_makeable capacity) one_datum_same_arrays
    (one_datum (λ s. text s.bytes) (λ s t same. ap text same)) inexact
    (texts_alike (λ s. s.bytes)) (texts_equal _ (λ s. s.bytes))

-- ---- choices

abbrev pub option_data : {A : Type 0} → DataOf A → DataOf (Option A)
option_data a =
    data_of
    (option_lawful a.lawful) (option_makeable a.makeable) (option_same_arrays a.same_arrays)
    (images_same_data option_variant (choices_same_data (first_same_data (one_datum (λ t. unit) (λ t u s. refl)) (last_same_data a.same_data))))
    (images_exact option_variant (λ u. (option_found u).0) option_again (variants_exact ones_exact a.are_exact))
    (options_alike a.alike) (options_equal a.tells)

abbrev pub result_data : {A B : Type 0} → DataOf A → DataOf B → DataOf (Result A B)
result_data a b =
    data_of
    (result_lawful a.lawful b.lawful) (result_makeable a.makeable b.makeable) (result_same_arrays a.same_arrays b.same_arrays)
    (images_same_data result_variant (choices_same_data (first_same_data a.same_data (last_same_data b.same_data))))
    (images_exact result_variant (λ u. (result_found u).0) result_again (variants_exact a.are_exact b.are_exact))
    (results_alike a.alike b.alike) (results_equal a.tells b.tells)

-- an enum without payloads: the values are given in the order of their variants
abbrev pub bare_data : {T : Type 0} (count : ℕ) (variant : T → ℕ) (values : List T) → AreSomeInOrder variant values count
    → ((t : T) → slice_get values (variant t) ≡ Some t) → DataOf T
bare_data count variant values in_order one_to_one =
    data_of (bare_lawful variant in_order.1) (bare_makeable variant values in_order.0) one_datum_same_arrays
    (one_datum (λ t. choice (variant t) unit) (λ t u s. ap (λ i. choice i unit) s)) (exactly (bares_are_one _ variant values one_to_one))
    (naturals_alike variant) (bares_equal _ variant)
