-- Sets and heaps of any elements can be built.
use Rattle.std.proofs.Common.{◌≡◌, ◌^◌, ◌<◌, Bool, None, List, [], ◌∷◌, length, map, refl, sym, ◌∙◌, ap, subst}
use Rattle.std.specs.Prelude.{All, is_some}
use Rattle.std.specs.declared.alloc.Global.{Global}
use Rattle.std.specs.declared.cmp.Ordering.{Ordering}
use Rattle.std.specs.declared.collections.BinaryHeap.{BinaryHeap}
use Rattle.std.specs.BinaryHeap.{heap_items}
use Rattle.std.specs.BTreeSet.{BTreeSet}
use Rattle.std.specs.Ordering.{eq_by_cmp}
use Rattle.std.specs.Cmp.{IsTotalOrder, IsEquivalence}
use Rattle.std.specs.Map.{lookup, keys_of, update_all}
use Rattle.std.specs.Set.{is_member}
use Rattle.std.proofs.lemmas.Cmp.{eq_by_cmp_equiv}
use Rattle.std.proofs.lemmas.List.Elements.{All-nil, All-cons, All-head, All-tail}
use Rattle.std.proofs.lemmas.Map.Made.{is_some-lookup, is_some-update_all}
use Rattle.bitcode_shapes.specs.LawfulLists.{vec_built}
use Rattle.bitcode_shapes.specs.Sets.{SameMembers, IsOrderedSet, IsDistinctSet}
use Rattle.bitcode_shapes.specs.BuiltOrdered as ordered
use Rattle.bitcode_shapes.specs.BuiltDistinct as distinct

pub heap_built : {T : Type 0} → Global → (values : List T) → length values < 2 ^ 63 → (h : BinaryHeap T Global) × (heap_items h ≡ values)
heap_built g values small = let built = vec_built g values small in (record { «data» = built.0 }, built.1)

-- ---- the keys of entries without values

abbrev pub alone : {T : Type 0} → T → T × Unit {0}
alone t = (t, tt)

pub keys_alone : {T : Type 0} (values : List T) → keys_of (map alone values) ≡ values
keys_alone [] = refl
keys_alone (t ∷ ts) = ap (λ rest. t ∷ rest) (keys_alone ts)

module _ {T : Type 0} (eq : T → T → Bool) (laws : IsEquivalence eq) (values : List T) (entries : List (T × Unit {0})) where
  members_of_entries : ((key : T) → lookup (eq key) entries ≡ update_all eq (λ _. None) (map alone values) key) → SameMembers eq (keys_of entries) values
  members_of_entries found key =
      sym (is_some-lookup (eq key) entries) ∙ ap is_some (found key) ∙ is_some-update_all laws key (λ _. None) (map alone values)
      ∙ ap (λ keys. is_member eq keys key) (keys_alone values)

-- ---- the two kinds of sets

module _ {T : Type 0} (is_value : T → Type 0) where
  All-keys : (es : List (T × Unit {0})) → All (λ e. is_value e.0) es → All is_value (keys_of es)
  All-keys [] h = All-nil is_value
  All-keys (e ∷ es) h = All-cons is_value e.0 (keys_of es) (All-head (λ e. is_value e.0) e es h) (All-keys es (All-tail (λ e. is_value e.0) e es h))

  each_alone : (values : List T) → All is_value values → All (λ e. is_value e.0) (map alone values)
  each_alone [] h = All-nil (λ e. is_value e.0)
  each_alone (t ∷ ts) h = All-cons (λ e. is_value e.0) (alone t) (map alone ts) (All-head is_value t ts h) (each_alone ts (All-tail is_value t ts h))

  pub ordered_set_built : {R : T → T → Ordering} → IsTotalOrder R → (values : List T) → All is_value values
      → (s : BTreeSet T) × (IsOrderedSet is_value R s.keys × SameMembers (eq_by_cmp R) s.keys values)
  ordered_set_built {R} o values h =
      let entries = ordered.all_inserted o [] (map alone values) in
      let pairs : All is_value (keys_of (map alone values)) = subst (All is_value) (sym (keys_alone values)) h in (
        record { keys = keys_of entries },
        (
          record {
            each = ordered.all_keys o is_value (λ u. Unit {0}) [] (map alone values) (All-nil is_value) pairs;
            ascending = ordered.all_sorted o [] (map alone values) (ordered.none_sorted R);
          },
          members_of_entries (eq_by_cmp R) (eq_by_cmp_equiv o) values entries (λ key. ordered.all_found o (λ _. None) key [] (map alone values) refl),
        ),
      )

  -- given that a hashed set of any keys exists
  pub hashed_set_built : {C : Type 0} (keys : C → List T) {eq : T → T → Bool} → IsEquivalence eq → ((ts : List T) → (c : C) × (keys c ≡ ts))
      → (values : List T) → All is_value values → (c : C) × (IsDistinctSet is_value eq (keys c) × SameMembers eq (keys c) values)
  hashed_set_built keys {eq} laws find values h =
      let entries = distinct.all_put eq [] (map alone values) in
      let whole : IsDistinctSet is_value eq (keys_of entries) = record {
        each = All-keys entries
            (distinct.all_kept eq (λ e. is_value e.0) [] (map alone values) (All-nil (λ e. is_value e.0)) (each_alone values h));
        apart = distinct.all_distinct eq [] (map alone values) (distinct.none_distinct eq);
      } in
      let members : SameMembers eq (keys_of entries) values =
      members_of_entries eq laws values entries (λ key. distinct.all_found laws (λ _. None) key [] (map alone values) refl) in
      let found = find (keys_of entries) in
      (found.0, (subst (IsDistinctSet is_value eq) (sym found.1) whole, subst (λ ts. SameMembers eq ts values) (sym found.1) members))
