-- Writing the fields of a tuple, one after another.
use Rattle.std.proofs.Common.{◌≡◌, ℕ, suc, ◌+◌, ◌≤◌, inl, inr, List, [], ◌++◌, length, refl, ap, sym, subst, ◌∙◌, arith, zero-add}
use Rattle.std.specs.Prelude.{Result, Ok, Err}
use Rattle.bitcode_memory.specs.declared.error.Error.{Error}
use Rattle.bitcode_memory.specs.declared.error.Reason.{Reason}
use Rattle.bitcode_shapes.specs.Datum.{Datum, Data, datum_and, tuple}
use Rattle.bitcode_coder.specs.Columns.{Kind}
use Rattle.bitcode_untyped.specs.PlaceKinds.{HasKindFrom, HasKindAt}
use Rattle.bitcode_untyped.specs.ShapeTree.{ShapeTree, ShapeTrees, no_trees, tree_and, tuple_tree, IsOf}
use Rattle.bitcode_untyped.specs.Walk.{Place, Use, field_place, walk, walk_fields}
use Rattle.bitcode_untyped.proofs.EachLemmas.{each_if}
use Rattle.bitcode_untyped.proofs.KindLemmas.{kinded}
use Rattle.bitcode_serde.specs.ReadingValues.{field_at}
use Rattle.bitcode_serde.specs.Serializing.{Outcome}
use Rattle.bitcode_serde.specs.Writing.{written, place_in, Grows, Writes, AreOfShape, IsWriterReason, RefusesAt}
use Rattle.bitcode_serde.specs.declared.writer.state.Writer.{Writer}
use Rattle.bitcode_serde.proofs.SerializeLemmas.{kept, writes_none, writes_then, among_front, among_back, of_shape_all}
use Rattle.bitcode_serde_types.specs.DeepFaults.{deep_faults}
use Rattle.bitcode_serde_types.specs.FieldsWritten.{tree_count, places_of_fields, ArePartsOf, FieldsOutcome}

-- ---- places

pub field_of_count : (ss : ShapeTrees) (p : Place) (i : ℕ) → field_place ss p i ≡ field_at (tree_count ss) p i
field_of_count no_trees p i = refl
field_of_count (tree_and s no_trees) p i = refl
field_of_count (tree_and s (tree_and t ss)) p i = refl

pub walk_of_fields : (ss : ShapeTrees) (p : Place) (i : ℕ) (ds : Data)
    → walk_fields ss (λ j. field_at (tree_count ss) p j) i ds ≡ walk_fields ss (field_place ss p) i ds
walk_of_fields no_trees p i ds = refl
walk_of_fields (tree_and s no_trees) p i ds = refl
walk_of_fields (tree_and s (tree_and t ss)) p i ds = refl

-- ---- a refusal

pub fields_refused : {A : Type 0} (old new : Writer) (ss : ShapeTrees) (n i fields : ℕ) (ds : Data) (faults : List Reason) (r : Result A Error) (e y : Error)
    → r ≡ Err y → y ≡ e
    → ((root : ShapeTree) → AreOfShape root (written old) → ArePartsOf root ss (places_of_fields old n fields) i → IsWriterReason e.reason faults)
    → FieldsOutcome old ss n i fields ds faults r new
fields_refused old new ss n i fields ds faults r e y h g k = rw (h, g) (record { writes = tt; of_trees = tt; whole = tt; refused = k })

module _ (old below : Writer) (s : ShapeTree) (rest : ShapeTrees) (n m i fields : ℕ) (d : Datum) (faults : List Reason) (grows : Grows old below)
    (same : written below ≡ written old) (at : place_in below m ≡ field_at fields (place_in old n) i) where
  first_part : (root : ShapeTree) → ArePartsOf root (tree_and s rest) (places_of_fields old n fields) i → (q : Place) (kind : Kind)
      → HasKindFrom s (place_in below m) q kind → HasKindFrom root [] q kind
  first_part root part q kind h =
      let zeroth : i ≡ i + 0 = omega arith in
      part 0 q kind (subst (λ z. HasKindFrom s z q kind) (at ∙ ap (λ j. field_at fields (place_in old n) j) zeroth) h)

  pub first_refused : (reason : Reason) → RefusesAt below s m (deep_faults s d) reason → (root : ShapeTree) → AreOfShape root (written old)
      → ArePartsOf root (tree_and s rest) (places_of_fields old n fields) i → IsWriterReason reason (deep_faults s d ++ faults)
  first_refused reason refused root of part =
      elim (refused root (subst (AreOfShape root) (sym same) of) (first_part root part)) [
        | inl memory ↦ inl memory
        | inr fault ↦ inr (among_front reason (deep_faults s d) faults fault)
      ]

  module _ (mid : Writer) (step : Writes below (walk s (place_in below m) d) mid) (is : IsOf s d) (none : deep_faults s d ≡ [])
      (inside : n ≤ length old.places.below.items) where
    first : Writes old (walk s (place_in below m) d) mid
    first = writes_then old below mid [] (walk s (place_in below m) d) (writes_none old below grows same) step

    stays : place_in mid n ≡ place_in old n
    stays = kept old mid n first.grows inside

    of_mid : (root : ShapeTree) → AreOfShape root (written old) → ArePartsOf root (tree_and s rest) (places_of_fields old n fields) i
        → AreOfShape root (written mid)
    of_mid root of part =
        let p = place_in below m in
        subst (AreOfShape root) (sym first.columns)
        (of_shape_all root (walk s p d) (written old) of (each_if (λ (u : Use). HasKindFrom s p u.place u.kind)
        (λ (u : Use). HasKindFrom root [] u.place u.kind) (λ u h. first_part root part u.place u.kind h) (walk s p d) (kinded s p d)))

    rest_parts : (root : ShapeTree) → ArePartsOf root (tree_and s rest) (places_of_fields old n fields) i
        → ArePartsOf root rest (places_of_fields mid n fields) (i + 1)
    rest_parts root part j q kind h =
        let next : i + 1 + j ≡ i + suc j = omega arith in
        part (suc j) q kind (subst (λ k. HasKindAt rest j (field_at fields (place_in old n) k) q kind) next
        (subst (λ p. HasKindAt rest j (field_at fields p (i + 1 + j)) q kind) stays h))

    pub fields_then : {A : Type 0} (more : Data) (r : Result A Error) (new : Writer) → FieldsOutcome mid rest n (i + 1) fields more faults r new
        → FieldsOutcome old (tree_and s rest) n i fields (datum_and d more) (deep_faults s d ++ faults) r new
    fields_then more (Ok a) new o = record {
      writes =
          writes_then old mid new _ _ (subst (λ p. Writes old (walk s p d) mid) at first)
          (subst (λ p. Writes mid (walk_fields rest (λ j. field_at fields p j) (i + 1) more) new) stays o.writes);
      of_trees = (is, o.of_trees);
      whole = rw none o.whole;
      refused = tt;
    }
    fields_then more (Err e) new o = record {
      writes = tt;
      of_trees = tt;
      whole = tt;
      refused = λ root of part. elim (o.refused root (of_mid root of part) (rest_parts root part)) [
        | inl memory ↦ inl memory
        | inr fault ↦ inr (among_back e.reason (deep_faults s d) faults fault)
      ];
    }

-- ---- the whole tuple

pub tuple_outcome : {A : Type 0} (old new : Writer) (ss : ShapeTrees) (n : ℕ) (ds : Data) (faults : List Reason) (r : Result A Error)
    → FieldsOutcome old ss n 0 (tree_count ss) ds faults r new → Outcome old (tuple_tree ss) n (tuple ds) faults r new
tuple_outcome old new ss n ds faults (Ok a) o = record {
  written = subst (λ w. Writes old w new) (walk_of_fields ss (place_in old n) 0 ds) o.writes;
  of_tree = (refl, o.of_trees);
  whole = o.whole;
  refused = tt;
}
tuple_outcome old new ss n ds faults (Err e) o = record {
  written = tt;
  of_tree = tt;
  whole = tt;
  refused = λ root of part.
      o.refused root of (λ j q kind h. part q kind (
        j,
        subst (λ p. HasKindAt ss j p q kind)
            (ap (λ k. field_at (tree_count ss) (place_in old n) k) (zero-add j) ∙ sym (field_of_count ss (place_in old n) j)) h,
      ));
}
