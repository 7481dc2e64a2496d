-- Writing the fields of a tuple in two parts.
use Rattle.std.proofs.Common.{◌≡◌, ℕ, zero, suc, ◌+◌, ◌≤◌, inl, inr, [], ◌++◌, length, refl, ap, sym, subst, ◌∙◌, arith, append_assoc}
use Rattle.std.specs.Prelude.{Result, Ok, Err}
use Rattle.bitcode_memory.specs.declared.error.Error.{Error}
use Rattle.bitcode_shapes.specs.Datum.{Data, no_data, datum_and}
use Rattle.bitcode_coder.specs.Columns.{Kind}
use Rattle.bitcode_untyped.specs.PlaceKinds.{HasKindFrom, HasKindAt}
use Rattle.bitcode_untyped.specs.ShapeTree.{ShapeTree, ShapeTrees, no_trees, tree_and, AreOf}
use Rattle.bitcode_untyped.specs.Walk.{Place, Use, walk, walk_fields}
use Rattle.bitcode_untyped.proofs.EachLemmas.{each_if}
use Rattle.bitcode_untyped.proofs.KindLemmas.{kinded_fields}
use Rattle.bitcode_serde.specs.ReadingValues.{field_at}
use Rattle.bitcode_serde.specs.Writing.{written, place_in, Writes, AreOfShape}
use Rattle.bitcode_serde.specs.declared.writer.state.Writer.{Writer}
use Rattle.bitcode_serde.proofs.SerializeLemmas.{kept, writes_then, among_front, among_back, of_shape_all}
use Rattle.bitcode_serde_types.specs.DeepFaults.{deep_faults, deep_faults_of_fields}
use Rattle.bitcode_serde_types.specs.FieldsWritten.{tree_count, places_of_fields, ArePartsOf, FieldsOutcome}
use Rattle.bitcode_serde_types.specs.Joined.{joined, joined_data, data_count}

-- ---- two parts

pub walk_joined : (ps rs : ShapeTrees) (at : ℕ → Place) (i : ℕ) (ds es : Data) → AreOf ps ds
    → walk_fields (joined ps rs) at i (joined_data ds es) ≡ walk_fields ps at i ds ++ walk_fields rs at (i + tree_count ps) es
walk_joined no_trees rs at i no_data es h = let e : i ≡ i + 0 = omega arith in ap (λ j. walk_fields rs at j es) e
walk_joined no_trees rs at i (datum_and d ds) es h = absurd h
walk_joined (tree_and s ps) rs at i no_data es h = absurd h
walk_joined (tree_and s ps) rs at i (datum_and d ds) es h =
    let next : i + 1 + tree_count ps ≡ i + suc (tree_count ps) = omega arith in
    ap (λ w. walk s (at i) d ++ w)
    (walk_joined ps rs at (i + 1) ds es h.1 ∙ ap (λ j. walk_fields ps at (i + 1) ds ++ walk_fields rs at j es) next)
    ∙ sym (append_assoc (walk s (at i) d) _ _)

pub are_joined : (ps rs : ShapeTrees) (ds es : Data) → AreOf ps ds → AreOf rs es → AreOf (joined ps rs) (joined_data ds es)
are_joined no_trees rs no_data es h k = k
are_joined no_trees rs (datum_and d ds) es h k = absurd h
are_joined (tree_and s ps) rs no_data es h k = absurd h
are_joined (tree_and s ps) rs (datum_and d ds) es h k = (h.0, are_joined ps rs ds es h.1 k)

pub count_of : (ps : ShapeTrees) (ds : Data) → AreOf ps ds → data_count ds ≡ tree_count ps
count_of no_trees no_data h = refl
count_of no_trees (datum_and d ds) h = absurd h
count_of (tree_and s ps) no_data h = absurd h
count_of (tree_and s ps) (datum_and d ds) h = ap suc (count_of ps ds h.1)

pub faults_joined : (ps rs : ShapeTrees) (ds es : Data) → data_count ds ≡ tree_count ps
    → deep_faults_of_fields (joined ps rs) (joined_data ds es) ≡ deep_faults_of_fields ps ds ++ deep_faults_of_fields rs es
faults_joined no_trees rs no_data es h = refl
faults_joined no_trees rs (datum_and d ds) es h = absurd (let k : suc (data_count ds) ≡ 0 = h in omega (arith, k))
faults_joined (tree_and s ps) rs no_data es h = absurd (let k : 0 ≡ suc (tree_count ps) = h in omega (arith, k))
faults_joined (tree_and s ps) rs (datum_and d ds) es h =
    let k : suc (data_count ds) ≡ suc (tree_count ps) = h in
    ap (λ fs. deep_faults s d ++ fs) (faults_joined ps rs ds es (omega (arith, k))) ∙ sym (append_assoc (deep_faults s d) _ _)

kind_front : (ps rs : ShapeTrees) (j : ℕ) (p q : Place) (kind : Kind) → HasKindAt ps j p q kind → HasKindAt (joined ps rs) j p q kind
kind_front no_trees rs j p q kind h = absurd h
kind_front (tree_and s ps) rs zero p q kind h = h
kind_front (tree_and s ps) rs (suc j) p q kind h = kind_front ps rs j p q kind h

kind_back : (ps rs : ShapeTrees) (j : ℕ) (p q : Place) (kind : Kind) → HasKindAt rs j p q kind → HasKindAt (joined ps rs) (tree_count ps + j) p q kind
kind_back no_trees rs j p q kind h = let e : j ≡ 0 + j = omega arith in subst (λ z. HasKindAt rs z p q kind) e h
kind_back (tree_and s ps) rs j p q kind h =
    let e : suc (tree_count ps + j) ≡ suc (tree_count ps) + j = omega arith in
    subst (λ z. HasKindAt (tree_and s (joined ps rs)) z p q kind) e (kind_back ps rs j p q kind h)

parts_front : (root : ShapeTree) (ps rs : ShapeTrees) (at : ℕ → Place) (i : ℕ) → ArePartsOf root (joined ps rs) at i → ArePartsOf root ps at i
parts_front root ps rs at i part j q kind h = part j q kind (kind_front ps rs j (at (i + j)) q kind h)

parts_back : (root : ShapeTree) (ps rs : ShapeTrees) (at : ℕ → Place) (i : ℕ) → ArePartsOf root (joined ps rs) at i
    → ArePartsOf root rs at (i + tree_count ps)
parts_back root ps rs at i part j q kind h =
    let e : i + tree_count ps + j ≡ i + (tree_count ps + j) = omega arith in
    part (tree_count ps + j) q kind
    (subst (λ z. HasKindAt (joined ps rs) (tree_count ps + j) (at z) q kind) e (kind_back ps rs j (at (i + tree_count ps + j)) q kind h))

-- ---- what writing them leaves

-- the same, with the faults that the fields have
abbrev pub TreesOutcome : {A : Type 0} → Writer → ShapeTrees → ℕ → ℕ → ℕ → Data → Result A Error → Writer → Type 0
TreesOutcome old ss n i fields ds r new = FieldsOutcome old ss n i fields ds (deep_faults_of_fields ss ds) r new

-- a field of the first part was refused
pub front_refused : {A B : Type 0} (old new : Writer) (ps rs : ShapeTrees) (n i fields : ℕ) (ds es : Data) (e : Error) → data_count ds ≡ tree_count ps
    → TreesOutcome {A = A} old ps n i fields ds (Err e) new → TreesOutcome {A = B} old (joined ps rs) n i fields (joined_data ds es) (Err e) new
front_refused old new ps rs n i fields ds es e count o = record {
  writes = tt;
  of_trees = tt;
  whole = tt;
  refused = λ root of part.
      rw (faults_joined ps rs ds es count)
      (elim (o.refused root of (parts_front root ps rs (places_of_fields old n fields) i part)) [
        | inl memory ↦ inl memory
        | inr fault ↦ inr (among_front e.reason (deep_faults_of_fields ps ds) (deep_faults_of_fields rs es) fault)
      ]);
}

-- The first part was written.
module _ {A : Type 0} (old mid : Writer) (ps rs : ShapeTrees) (n i fields : ℕ) (ds es : Data) (a : A)
    (first : TreesOutcome old ps n i fields ds (Ok a) mid) (inside : n ≤ length old.places.below.items) where
  stays : place_in mid n ≡ place_in old n
  stays = kept old mid n first.writes.grows inside

  faults : deep_faults_of_fields (joined ps rs) (joined_data ds es) ≡ deep_faults_of_fields ps ds ++ deep_faults_of_fields rs es
  faults = faults_joined ps rs ds es (count_of ps ds first.of_trees)

  of_mid : (root : ShapeTree) → AreOfShape root (written old) → ArePartsOf root (joined ps rs) (places_of_fields old n fields) i
      → AreOfShape root (written mid)
  of_mid root of part =
      let at = places_of_fields old n fields in
      subst (AreOfShape root) (sym first.writes.columns)
      (of_shape_all root (walk_fields ps at i ds) (written old) of
      (each_if (λ (u : Use). (j : ℕ) × HasKindAt ps j (at (i + j)) u.place u.kind) (λ (u : Use). HasKindFrom root [] u.place u.kind)
      (λ u h. part h.0 u.place u.kind (kind_front ps rs h.0 (at (i + h.0)) u.place u.kind h.1)) (walk_fields ps at i ds) (kinded_fields ps at i ds)))

  parts_mid : (root : ShapeTree) → ArePartsOf root (joined ps rs) (places_of_fields old n fields) i
      → ArePartsOf root rs (places_of_fields mid n fields) (i + tree_count ps)
  parts_mid root part j q kind h =
      parts_back root ps rs (places_of_fields old n fields) i part j q kind
      (subst (λ p. HasKindAt rs j (field_at fields p (i + tree_count ps + j)) q kind) stays h)

  pub parts_written : {B : Type 0} (r : Result B Error) (new : Writer) → TreesOutcome mid rs n (i + tree_count ps) fields es r new
      → TreesOutcome old (joined ps rs) n i fields (joined_data ds es) r new
  parts_written (Ok b) new o = record {
    writes =
        subst (λ w. Writes old w new) (sym (walk_joined ps rs (places_of_fields old n fields) i ds es first.of_trees))
        (writes_then old mid new _ _ first.writes
        (subst (λ p. Writes mid (walk_fields rs (λ j. field_at fields p j) (i + tree_count ps) es) new) stays o.writes));
    of_trees = are_joined ps rs ds es first.of_trees o.of_trees;
    whole = faults ∙ ap (λ fs. fs ++ deep_faults_of_fields rs es) first.whole ∙ o.whole;
    refused = tt;
  }
  parts_written (Err e) new o = record {
    writes = tt;
    of_trees = tt;
    whole = tt;
    refused = λ root of part.
        rw faults
        (elim (o.refused root (of_mid root of part) (parts_mid root part)) [
          | inl memory ↦ inl memory
          | inr fault ↦ inr (among_back e.reason (deep_faults_of_fields ps ds) (deep_faults_of_fields rs es) fault)
        ]);
  }
