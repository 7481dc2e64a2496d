-- Maps of any pairs can be built, given that maps of any entries exist.
use Rattle.std.proofs.Common.{◌≡◌, Bool, None, List, [], ◌∷◌, refl, sym, ◌∙◌, ap, subst}
use Rattle.std.specs.Prelude.{All}
use Rattle.std.specs.declared.cmp.Ordering.{Ordering}
use Rattle.std.specs.Ordering.{eq_by_cmp}
use Rattle.std.specs.Cmp.{IsTotalOrder, IsEquivalence}
use Rattle.std.specs.Map.{lookup, keys_of, values_of, update_all}
use Rattle.std.proofs.lemmas.List.Elements.{All-nil, All-cons, All-head, All-tail}
use Rattle.bitcode_shapes.specs.Pairs.{IsPairValue}
use Rattle.bitcode_shapes.specs.Maps.{IsOrderedMap, IsDistinctMap}
use Rattle.bitcode_shapes.specs.BuiltOrdered as ordered
use Rattle.bitcode_shapes.specs.BuiltDistinct as distinct

module _ {K X : Type 0} (is_key : K → Type 0) (is_value : X → Type 0) where
  abbrev IsEntry : K × X → Type 0
  IsEntry = IsPairValue is_key is_value

  pub keys_are : (es : List (K × X)) → All IsEntry es → All is_key (keys_of es)
  keys_are [] h = All-nil is_key
  keys_are (e ∷ es) h = All-cons is_key e.0 (keys_of es) (All-head IsEntry e es h).0 (keys_are es (All-tail IsEntry e es h))

  pub values_are : (es : List (K × X)) → All IsEntry es → All is_value (values_of es)
  values_are [] h = All-nil is_value
  values_are (e ∷ es) h = All-cons is_value e.1 (values_of es) (All-head IsEntry e es h).1 (values_are es (All-tail IsEntry e es h))

  entries_are : (es : List (K × X)) → All is_key (keys_of es) → All is_value (values_of es) → All IsEntry es
  entries_are [] h i = All-nil IsEntry
  entries_are (e ∷ es) h i =
      All-cons IsEntry e es (All-head is_key e.0 (keys_of es) h, All-head is_value e.1 (values_of es) i)
      (entries_are es (All-tail is_key e.0 (keys_of es) h) (All-tail is_value e.1 (values_of es) i))

  module _ {C : Type 0} (entries : C → List (K × X)) (find : (es : List (K × X)) → (c : C) × (entries c ≡ es)) where
    pub ordered_map_built : {R : K → K → Ordering} → IsTotalOrder R → (pairs : List (K × X)) → All IsEntry pairs
        → (c : C) × (IsOrderedMap is_key is_value R (entries c) × ((key : K) → lookup (eq_by_cmp R key) (entries c) ≡ update_all (eq_by_cmp R) (λ _. None) pairs key))
    ordered_map_built {R} o pairs h =
        let es = ordered.all_inserted o [] pairs in
        let whole : IsOrderedMap is_key is_value R es = record {
          each = entries_are es
              (ordered.all_keys o is_key is_value [] pairs (All-nil is_key) (keys_are pairs h))
              (ordered.all_values o is_key is_value [] pairs (All-nil is_value) (values_are pairs h));
          ascending = ordered.all_sorted o [] pairs (ordered.none_sorted R);
        } in
        let found = find es in (
          found.0,
          (
            subst (IsOrderedMap is_key is_value R) (sym found.1) whole,
            λ key. ap (lookup (eq_by_cmp R key)) found.1 ∙ ordered.all_found o (λ _. None) key [] pairs refl,
          ),
        )

    pub hashed_map_built : {eq : K → K → Bool} → IsEquivalence eq → (pairs : List (K × X)) → All IsEntry pairs
        → (c : C) × (IsDistinctMap is_key is_value eq (entries c) × ((key : K) → lookup (eq key) (entries c) ≡ update_all eq (λ _. None) pairs key))
    hashed_map_built {eq} laws pairs h =
        let es = distinct.all_put eq [] pairs in
        let whole : IsDistinctMap is_key is_value eq es = record {
          each = distinct.all_kept eq IsEntry [] pairs (All-nil IsEntry) h;
          apart = distinct.all_distinct eq [] pairs (distinct.none_distinct eq);
        } in
        let found = find es in (
          found.0,
          (
            subst (IsDistinctMap is_key is_value eq) (sym found.1) whole,
            λ key. ap (lookup (eq key)) found.1 ∙ distinct.all_found laws (λ _. None) key [] pairs refl,
          ),
        )
