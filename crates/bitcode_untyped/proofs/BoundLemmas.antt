-- A datum has at most 65537 elements for each entry, and at most eight entries for each byte that spells it.
use Rattle.std.proofs.Common.{◌≡◌, ℕ, zero, suc, ◌+◌, ◌*◌, ◌≤◌, List, [], ◌∷◌, ◌++◌, length, refl, ap, Bool, true, false, cond, arith, length-append, ◌&&◌}
use Rattle.std.specs.List.{AllByRecursion, flat_map}
use Rattle.bitcode_shapes.specs.Datum.{Datum, Data, unit, number, text, list, tuple, choice, no_data, datum_and, list_of, elements_in, fields_in, first_in, second_in, variant_in, payload_in}
use Rattle.bitcode_coder.specs.Columns.{Kind, bools, ints, floats, lengths, texts, raws, variants, IsEntryOf}
use Rattle.bitcode_untyped.specs.Bounds.{element_count, element_counts, column_free, all_free, IsLimited, AreLimited, IsLimitedVariant}
use Rattle.bitcode_untyped.specs.ShapeTree.{ShapeTree, unit_tree, never_tree, leaf_tree, seq_tree, map_tree, tuple_tree, choice_tree, noted_tree, ShapeTrees, no_trees, tree_and, IsList, IsPair, IsOf, AreOf, IsOfVariant}
use Rattle.bitcode_untyped.specs.Walk.{element, key, value, variant, Place, Use, field_place, walk, walk_fields, walk_variant}

abbrev pub counts_of : List Datum → ℕ
counts_of [] = 0
counts_of (d ∷ ds) = element_count d + counts_of ds

pub leaf_count : (k : Kind) (d : Datum) → IsEntryOf k d → element_count d ≡ 0
leaf_count bools d h = ap element_count h.is
leaf_count (ints w s) d h = ap element_count h.is
leaf_count (floats format) d h = ap element_count h.is
leaf_count (lengths limit) d h = ap element_count h.1.0
leaf_count (texts limit) d h = ap element_count h.is
leaf_count raws d h = ap element_count h.is
leaf_count (variants n) d h = ap element_count h.is

pub counts-list_of : (ds : Data) → element_counts ds ≡ counts_of (list_of ds)
counts-list_of no_data = refl
counts-list_of (datum_and d ds) = ap (λ n. element_count d + n) (counts-list_of ds)

pub list_count : (d : Datum) → IsList d → element_count d ≡ length (elements_in d) + counts_of (elements_in d)
list_count (list ds) h = ap (λ n. length (list_of ds) + n) (counts-list_of ds)
list_count unit h = cc
list_count (number z) h = cc
list_count (text bytes) h = cc
list_count (tuple ds) h = cc
list_count (choice i d) h = cc

-- one for a shape that has a column wherever a datum of it stands
abbrev pub own : Bool → ℕ
own b = cond b 0 1

abbrev pub Bounded : ShapeTree → Type 0
Bounded s = (p : Place) (d : Datum) → IsOf s d → IsLimited s d → element_count d + own (column_free s) ≤ 65537 * length (walk s p d)

pub each_bound : (n : ℕ) (f : Datum → List Use) (P Q : Datum → Type 0)
    → ((d : Datum) → P d → Q d → element_count d + n ≤ 65537 * length (f d)) → (ds : List Datum) → AllByRecursion P ds
    → AllByRecursion Q ds → counts_of ds + n * length ds ≤ 65537 * length (flat_map f ds)
each_bound n f P Q one [] h k = omega arith
each_bound n f P Q one (d ∷ ds) h k =
    let a = one d h.0 k.0 in
    let b = each_bound n f P Q one ds h.1 k.1 in
    omega (arith, a, b, length-append (f d) (flat_map f ds))

-- a list, from its elements
pub list_bound : (b : Bool) (d : Datum) (f : Datum → List Use) → IsList d → (b ≡ true → length (elements_in d) ≤ 65536)
    → counts_of (elements_in d) + own b * length (elements_in d) ≤ 65537 * length (flat_map f (elements_in d))
    → element_count d + 1 ≤ 65537 * suc (length (flat_map f (elements_in d)))
list_bound true d f h few k = let e = list_count d h in let m = few refl in omega (arith, e, m, k)
list_bound false d f h few k = let e = list_count d h in omega (arith, e, k)

pub both_bound : (a b : Bool) (m n v w l : ℕ) → m + own a ≤ 65537 * v → n + own b ≤ 65537 * w → l ≡ v + w
    → m + n + own (a && b) ≤ 65537 * l
both_bound true true m n v w l h k e = omega arith
both_bound true false m n v w l h k e = omega arith
both_bound false true m n v w l h k e = omega arith
both_bound false false m n v w l h k e = omega arith

mutual
  pub bounded : (s : ShapeTree) → Bounded s
  bounded unit_tree p d h k = rw h (omega arith)
  bounded never_tree p d h k = absurd h
  bounded (leaf_tree l allowed) p d h k = rw (leaf_count l d h.0) (omega arith)
  bounded (seq_tree s) p d h k =
      list_bound (column_free s) d (walk s (element ∷ p)) h.0 k.0
      (each_bound (own (column_free s)) (walk s (element ∷ p)) (IsOf s) (IsLimited s) (bounded s (element ∷ p)) (elements_in d) h.1 k.1)
  bounded (map_tree s v) p d h k =
      let f : Datum → List Use = λ e. walk s (key ∷ p) (first_in e) ++ walk v (value ∷ p) (second_in e) in
      let Q : Datum → Type 0 = λ e. IsLimited s (first_in e) × IsLimited v (second_in e) in
      let one : (e : Datum) → IsPair (IsOf s) (IsOf v) e → Q e → element_count e + own (column_free s) ≤ 65537 * length (f e) = λ e q l.
      let a = bounded s (key ∷ p) (first_in e) q.1 l.0 in
      let b = bounded v (value ∷ p) (second_in e) q.2 l.1 in
      let t : element_count e ≡ element_count (first_in e) + (element_count (second_in e) + 0) = ap element_count q.0 in
      omega (arith, a, b, t, length-append (walk s (key ∷ p) (first_in e)) (walk v (value ∷ p) (second_in e))) in
      list_bound (column_free s) d f h.0 k.0 (each_bound (own (column_free s)) f (IsPair (IsOf s) (IsOf v)) Q one (elements_in d) h.1 k.1)
  bounded (tuple_tree ss) p d h k =
      let t : element_count d ≡ element_counts (fields_in d) = ap element_count h.0 in
      rw t (bounded_fields ss (field_place ss p) 0 (fields_in d) h.1 k)
  bounded (choice_tree ss) p d h k =
      let b = bounded_variant ss (variant_in d) (variant (variant_in d) ∷ p) (payload_in d) h.2 k in
      let e : element_count d ≡ element_count (payload_in d) = ap element_count h.0 in
      omega (arith, b, e)
  bounded (noted_tree note s) p d h k = bounded s p d h.0 k

  pub bounded_fields : (ss : ShapeTrees) (at : ℕ → Place) (i : ℕ) (ds : Data) → AreOf ss ds → AreLimited ss ds
      → element_counts ds + own (all_free ss) ≤ 65537 * length (walk_fields ss at i ds)
  bounded_fields no_trees at i no_data h k = omega arith
  bounded_fields no_trees at i (datum_and d ds) h k = absurd h
  bounded_fields (tree_and s ss) at i no_data h k = absurd h
  bounded_fields (tree_and s ss) at i (datum_and d ds) h k =
      let a = bounded s (at i) d h.0 k.0 in
      let b = bounded_fields ss at (i + 1) ds h.1 k.1 in
      both_bound (column_free s) (all_free ss) (element_count d) (element_counts ds) (length (walk s (at i) d))
      (length (walk_fields ss at (i + 1) ds)) (length (walk s (at i) d ++ walk_fields ss at (i + 1) ds)) a b
      (length-append (walk s (at i) d) (walk_fields ss at (i + 1) ds))

  pub bounded_variant : (ss : ShapeTrees) (i : ℕ) (p : Place) (d : Datum) → IsOfVariant ss i d → IsLimitedVariant ss i d
      → element_count d ≤ 65537 * length (walk_variant ss i p d)
  bounded_variant no_trees i p d h k = absurd h
  bounded_variant (tree_and s ss) zero p d h k = let b = bounded s p d h k in omega (arith, b)
  bounded_variant (tree_and s ss) (suc i) p d h k = bounded_variant ss i p d h k
