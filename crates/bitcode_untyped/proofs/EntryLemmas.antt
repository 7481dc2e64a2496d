-- The kinds of a walk are of columns that there are, and its entries are of their kinds.
use Rattle.std.proofs.Common.{◌≡◌, ℕ, zero, suc, ◌+◌, ◌≤◌, inl, inr, pos, List, [], ◌∷◌, ◌++◌, length, refl, sym, subst, arith}
use Rattle.std.proofs.lemmas.Bool.{cases_Bool}
use Rattle.std.specs.List.{AllByRecursion}
use Rattle.bitcode_shapes.specs.Datum.{Datum, Data, no_data, datum_and, elements_in, fields_in, first_in, second_in, variant_in, payload_in}
use Rattle.bitcode_coder.specs.Columns.{Kind, IsEntryOf, IsSoundKind}
use Rattle.bitcode_coder.specs.Transposition.{length_entry, variant_entry}
use Rattle.bitcode_untyped.specs.PlaceKinds.{HasKindFrom, HasKindAt}
use Rattle.bitcode_untyped.specs.PlacedColumns.{same_place, entries_at, PlacedColumn, columns, columns_of}
use Rattle.bitcode_untyped.specs.ShapeTree.{ShapeTree, unit_tree, never_tree, leaf_tree, seq_tree, map_tree, tuple_tree, choice_tree, noted_tree, ShapeTrees, no_trees, tree_and, IsPair, IsOf, AreOf, IsOfVariant, IsSound, AreSound}
use Rattle.bitcode_untyped.specs.Walk.{element, key, value, variant, Place, Use, length_kind, index_kind, field_place, walk, walk_fields, walk_variant}
use Rattle.bitcode_untyped.proofs.EachLemmas.{each_if, each_append, each_flat_of}
use Rattle.bitcode_untyped.proofs.PlaceLemmas.{same_place-true}
use Rattle.bitcode_untyped.proofs.SoundLemmas.{sound}
use Rattle.bitcode_untyped.proofs.KindLemmas.{HasKind, kinded, one_kind, each_without, kind_columns}

mutual
  pub sound_kind : (s : ShapeTree) → IsSound s → (p q : Place) (k : Kind) → HasKindFrom s p q k → IsSoundKind k
  sound_kind unit_tree sound p q k h = absurd h
  sound_kind never_tree sound p q k h = absurd h
  sound_kind (leaf_tree l allowed) sound p q k h = subst IsSoundKind (sym h.1) sound
  sound_kind (seq_tree s) sound p q k (inl h) = subst IsSoundKind (sym h.1) tt
  sound_kind (seq_tree s) sound p q k (inr h) = sound_kind s sound (element ∷ p) q k h
  sound_kind (map_tree s v) sound p q k (inl h) = subst IsSoundKind (sym h.1) tt
  sound_kind (map_tree s v) sound p q k (inr (inl h)) = sound_kind s sound.0 (key ∷ p) q k h
  sound_kind (map_tree s v) sound p q k (inr (inr h)) = sound_kind v sound.1 (value ∷ p) q k h
  sound_kind (tuple_tree ss) sound p q k h = sound_kind_at ss sound h.0 (field_place ss p h.0) q k h.1
  sound_kind (choice_tree ss) sound p q k (inl h) = subst IsSoundKind (sym h.1) (inl refl)
  sound_kind (choice_tree ss) sound p q k (inr h) = sound_kind_at ss sound h.0 (variant h.0 ∷ p) q k h.1
  sound_kind (noted_tree note s) sound p q k h = sound_kind s sound.0 p q k h

  pub sound_kind_at : (ss : ShapeTrees) → AreSound ss → (j : ℕ) (p q : Place) (k : Kind) → HasKindAt ss j p q k → IsSoundKind k
  sound_kind_at no_trees sound j p q k h = absurd h
  sound_kind_at (tree_and s ss) sound zero p q k h = sound_kind s sound.0 p q k h
  sound_kind_at (tree_and s ss) sound (suc j) p q k h = sound_kind_at ss sound.1 j p q k h

-- the kinds of columns
pub sound_columns : (s : ShapeTree) → IsSound s → (d : Datum) → AllByRecursion (λ (c : PlacedColumn). IsSoundKind c.kind) (columns_of s d)
sound_columns s sound d =
    each_if (λ (c : PlacedColumn). HasKind s [] c.place c.kind) (λ (c : PlacedColumn). IsSoundKind c.kind)
    (λ c h. sound_kind s sound [] c.place c.kind h) (columns_of s d) (kind_columns (HasKind s []) (walk s [] d) (kinded s [] d))

-- ---- entries

abbrev pub Entered : Use → Type 0
Entered u = IsEntryOf u.kind u.entry

pub length_entered : (d : Datum) → IsEntryOf length_kind (length_entry d)
length_entered d = (length (elements_in d), (refl, tt))

pub index_entered : (d : Datum) → variant_in d ≤ 255 → IsEntryOf index_kind (variant_entry d)
index_entered d h = record { value = pos (variant_in d); is = refl; in_width = omega arith; in_allowed = tt }

mutual
  pub entered : (s : ShapeTree) (p : Place) (d : Datum) → IsOf s d → AllByRecursion Entered (walk s p d)
  entered unit_tree p d h = tt
  entered never_tree p d h = absurd h
  entered (leaf_tree k allowed) p d h = (h.0, tt)
  entered (seq_tree s) p d h =
      (length_entered d, each_flat_of Entered (IsOf s) (walk s (element ∷ p)) (entered s (element ∷ p)) (elements_in d) h.1)
  entered (map_tree s v) p d h =
      let f : Datum → List Use = λ e. walk s (key ∷ p) (first_in e) ++ walk v (value ∷ p) (second_in e) in
      let one : (e : Datum) → IsPair (IsOf s) (IsOf v) e → AllByRecursion Entered (f e) = λ e i.
      each_append Entered _ _ (entered s (key ∷ p) (first_in e) i.1) (entered v (value ∷ p) (second_in e) i.2) in
      (length_entered d, each_flat_of Entered (IsPair (IsOf s) (IsOf v)) f one (elements_in d) h.1)
  entered (tuple_tree ss) p d h = entered_fields ss (field_place ss p) 0 (fields_in d) h.1
  entered (choice_tree ss) p d h =
      (index_entered d h.1, entered_variant ss (variant_in d) (variant (variant_in d) ∷ p) (payload_in d) h.2)
  entered (noted_tree note s) p d h = entered s p d h.0

  pub entered_fields : (ss : ShapeTrees) (at : ℕ → Place) (i : ℕ) (ds : Data) → AreOf ss ds → AllByRecursion Entered (walk_fields ss at i ds)
  entered_fields no_trees at i ds h = tt
  entered_fields (tree_and s ss) at i no_data h = absurd h
  entered_fields (tree_and s ss) at i (datum_and d ds) h =
      each_append Entered _ _ (entered s (at i) d h.0) (entered_fields ss at (i + 1) ds h.1)

  pub entered_variant : (ss : ShapeTrees) (i : ℕ) (p : Place) (d : Datum) → IsOfVariant ss i d → AllByRecursion Entered (walk_variant ss i p d)
  entered_variant no_trees i p d h = absurd h
  entered_variant (tree_and s ss) zero p d h = entered s p d h
  entered_variant (tree_and s ss) (suc i) p d h = entered_variant ss i p d h

-- all entries of a place are of the kind that the shape gives it
pub entries_entered : (s : ShapeTree) (p : Place) (k : Kind) → HasKind s [] p k → (w : List Use)
    → AllByRecursion (λ (u : Use). HasKind s [] u.place u.kind) w → AllByRecursion Entered w → AllByRecursion (IsEntryOf k) (entries_at p w)
entries_entered s p k has [] h i = tt
entries_entered s p k has (u ∷ w) h i =
    elim (cases_Bool (same_place p u.place)) [
      | inl same ↦
          let at : HasKind s [] p u.kind = subst (λ q. HasKind s [] q u.kind) (sym (same_place-true p u.place same)) h.0 in
          let e : u.kind ≡ k = one_kind s [] p u.kind k at has in
          rw same (subst (λ l. IsEntryOf l u.entry) e i.0, entries_entered s p k has w h.1 i.1)
      | inr other ↦ rw other (entries_entered s p k has w h.1 i.1)
    ]

pub columns_entered : (s : ShapeTree) (w : List Use) → AllByRecursion (λ (u : Use). HasKind s [] u.place u.kind) w → AllByRecursion Entered w
    → AllByRecursion (λ (c : PlacedColumn). AllByRecursion (IsEntryOf c.kind) c.entries) (columns w)
columns_entered s [] h i = tt
columns_entered s (u ∷ w) h i = (
  (i.0, entries_entered s u.place u.kind h.0 w h.1 i.1),
  each_without (λ (c : PlacedColumn). AllByRecursion (IsEntryOf c.kind) c.entries) u.place (columns w) (columns_entered s w h.1 i.1),
)
