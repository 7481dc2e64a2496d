-- The records of heaps, sets and maps, from those of their elements, keys and values.
use Rattle.std.proofs.Common.{◌≡◌, ◌^◌, ◌<◌, None, List, length}
use Rattle.std.specs.Map.{keys_of}
use Rattle.std.specs.Ordering.{eq_by_cmp}
use Rattle.std.specs.declared.alloc.Global.{Global}
use Rattle.std.specs.BTreeSet.{BTreeSet}
use Rattle.std.proofs.lemmas.Cmp.{eq_by_cmp_equiv}
use Rattle.std.proofs.lemmas.Map.Keys.{IsDistinct-from_sorted}
use Rattle.bitcode_shapes.specs.BuiltMaps.{hashed_map_built, ordered_map_built}
use Rattle.bitcode_shapes.specs.BuiltSets.{hashed_set_built, ordered_set_built}
use Rattle.bitcode_shapes.specs.CompareAlike.{both_alike, equivalence_of, images_alike, sequences_alike}
use Rattle.bitcode_shapes.specs.DataOf.{DataOf, data_of, plain_data}
use Rattle.bitcode_shapes.specs.LawfulAnyOrder.{any_heap_lawful, any_order_makeable}
use Rattle.bitcode_shapes.specs.LawfulMaps.{hashed_map_lawful, hashed_map_makeable, ordered_map_lawful, ordered_map_makeable}
use Rattle.bitcode_shapes.specs.LawfulSets.{hashed_set_lawful, hashed_set_makeable, ordered_set_lawful, ordered_set_makeable, tells_by_order}
use Rattle.bitcode_shapes.specs.Maps.{IsDistinctMap, IsOrderedMap}
use Rattle.bitcode_shapes.specs.OrderedKeyLaws.{ordered_maps_equal, ordered_sets_equal}
use Rattle.bitcode_shapes.specs.SameArrays.{any_order_same_arrays, hashed_map_same_arrays, ordered_map_same_arrays, seq_same_arrays}
use Rattle.bitcode_shapes.specs.SameData.{undetermined}
use Rattle.bitcode_shapes.specs.SameIsOne.{inexact}
use Rattle.bitcode_shapes.specs.Sets.{IsDistinctSet, IsOrderedSet}

-- a container of elements in an order of its own, each as often as it occurs
abbrev pub heap_data : {A C : Type 0} → DataOf A → (items : C → List A) → (Global → (values : List A) → length values < 2 ^ 63 → (c : C) × (items c ≡ values)) → DataOf C
heap_data a items build =
    plain_data
    (any_heap_lawful a.shape a.is_value a.lists a.same a.in_order a.lawful items)
    (any_order_makeable a.shape a.is_value a.lists a.same items a.makes build a.makeable)
    (any_order_same_arrays a.same_arrays items _ (λ c each. each))
    undetermined inexact

-- ---- sets

abbrev pub ordered_set_data : {A : Type 0} → DataOf A → DataOf (BTreeSet A)
ordered_set_data {A} a =
    data_of
    (ordered_set_lawful a.shape a.is_value a.lists a.same (λ (s : BTreeSet A). s.keys) (λ s. IsOrderedSet a.is_value a.cmp s.keys) (λ s h. h.each)
    (eq_by_cmp a.cmp) a.in_order a.lawful)
    (ordered_set_makeable a.shape a.is_value a.lists a.same (eq_by_cmp a.cmp) (eq_by_cmp_equiv a.alike.total)
    (tells_by_order a.is_value a.same a.eq a.cmp a.alike.matches_eq a.tells) (λ s. s.keys) (λ s. IsOrderedSet a.is_value a.cmp s.keys) (λ s h. h.each) a.makes
    (λ g. ordered_set_built a.is_value a.alike.total) a.makeable)
    (seq_same_arrays a.same_arrays (λ s. s.keys) (λ s. IsOrderedSet a.is_value a.cmp s.keys) (λ s h. h.each) None)
    undetermined inexact
    (sequences_alike (λ s. s.keys) a.alike)
    (ordered_sets_equal a.alike.total a.alike.matches_eq a.is_value (λ s. s.keys))

-- given that a hashed set of any keys exists
abbrev pub hashed_set_data : {A C : Type 0} → DataOf A → (keys : C → List A) → ((ts : List A) → (c : C) × (keys c ≡ ts)) → DataOf C
hashed_set_data a keys find =
    plain_data
    (hashed_set_lawful a.shape a.is_value a.lists a.same keys (λ s. IsDistinctSet a.is_value a.eq (keys s)) (λ s h. h.each) a.eq a.in_order a.lawful)
    (hashed_set_makeable a.shape a.is_value a.lists a.same a.eq (equivalence_of a.alike) a.tells keys (λ s. IsDistinctSet a.is_value a.eq (keys s)) (λ s h. h.each) a.makes
    (λ g. hashed_set_built a.is_value keys (equivalence_of a.alike) find) a.makeable)
    (any_order_same_arrays a.same_arrays keys (λ s. IsDistinctSet a.is_value a.eq (keys s)) (λ s h. h.each))
    undetermined inexact

-- ---- maps, given that those of any entries exist

abbrev pub ordered_map_data : {K V C : Type 0} → DataOf K → DataOf V → (entries : C → List (K × V)) → ((es : List (K × V)) → (c : C) × (entries c ≡ es)) → DataOf C
ordered_map_data k v entries find =
    data_of
    (ordered_map_lawful k.shape v.shape k.is_value v.is_value k.lists v.lists k.same v.same (eq_by_cmp k.cmp) entries
    (λ m. IsOrderedMap k.is_value v.is_value k.cmp (entries m)) (λ m h. h.each) k.in_order v.in_order k.lawful v.lawful)
    (ordered_map_makeable k.shape v.shape k.is_value v.is_value k.lists v.lists k.same v.same (eq_by_cmp k.cmp) (eq_by_cmp_equiv k.alike.total)
    (tells_by_order k.is_value k.same k.eq k.cmp k.alike.matches_eq k.tells) entries (λ m. IsOrderedMap k.is_value v.is_value k.cmp (entries m)) (λ m h. h.each)
    (λ m h. IsDistinct-from_sorted k.cmp (keys_of (entries m)) h.ascending) k.makes v.makes k.makeable v.makeable
    (λ g. ordered_map_built k.is_value v.is_value entries find k.alike.total))
    (ordered_map_same_arrays k.same_arrays v.same_arrays entries (λ m. IsOrderedMap k.is_value v.is_value k.cmp (entries m)) (λ m h. h.each))
    undetermined inexact
    (sequences_alike entries (both_alike (images_alike (λ e. e.0) k.alike) (images_alike (λ e. e.1) v.alike)))
    (ordered_maps_equal k.alike.total k.alike.matches_eq k.is_value v.tells entries)

abbrev pub hashed_map_data : {K V C : Type 0} → DataOf K → DataOf V → (entries : C → List (K × V)) → ((es : List (K × V)) → (c : C) × (entries c ≡ es)) → DataOf C
hashed_map_data k v entries find =
    plain_data
    (hashed_map_lawful k.shape v.shape k.is_value v.is_value k.lists v.lists k.same v.same k.eq entries (λ m. IsDistinctMap k.is_value v.is_value k.eq (entries m))
    (λ m h. h.each) k.in_order v.in_order k.lawful v.lawful)
    (hashed_map_makeable k.shape v.shape k.is_value v.is_value k.lists v.lists k.same v.same k.eq (equivalence_of k.alike) k.tells entries
    (λ m. IsDistinctMap k.is_value v.is_value k.eq (entries m)) (λ m h. h.each) (λ m h. h.apart) k.makes v.makes k.makeable v.makeable
    (λ g. hashed_map_built k.is_value v.is_value entries find (equivalence_of k.alike)))
    (hashed_map_same_arrays k.same_arrays v.same_arrays entries (λ m. IsDistinctMap k.is_value v.is_value k.eq (entries m)) (λ m h. h.each))
    undetermined inexact
