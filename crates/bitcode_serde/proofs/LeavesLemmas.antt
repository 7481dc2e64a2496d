-- A list of values of one case, which were written at once.
use Rattle.std.proofs.Common.{◌≡◌, ◌≤◌, ◌⊎◌, ℕ, inl, inr, List, [], ◌∷◌, length, map, refl, ap, sym, subst}
use Rattle.std.specs.List.{AllByRecursion, flat_map}
use Rattle.std.specs.Prelude.{Result, Ok, Err, OnOk, IfErr}
use Rattle.bitcode_memory.specs.declared.error.Error.{Error}
use Rattle.bitcode_memory.specs.declared.error.Reason.{Reason}
use Rattle.bitcode_memory.specs.declared.error.Reason.TheVariants.{OutOfMemory, NotOfTheShape}
use Rattle.bitcode_shapes.specs.Datum.{list, data_of}
use Rattle.bitcode_shapes.specs.Shape.{any_number}
use Rattle.bitcode_coder.specs.Spelling.{natural}
use Rattle.bitcode_untyped.specs.Faults.{faults_of}
use Rattle.bitcode_untyped.specs.Growing.{put_all}
use Rattle.bitcode_untyped.specs.PlaceKinds.{HasKindFrom}
use Rattle.bitcode_untyped.specs.ShapeTree.{ShapeTree, seq_tree, leaf_tree, IsOf}
use Rattle.bitcode_untyped.specs.View.{datum_of, followed, tree_of_node}
use Rattle.bitcode_untyped.specs.Walk.{element, length_kind, use_at}
use Rattle.bitcode_untyped.specs.declared.shape.ShapeNode.{ShapeNode}
use Rattle.bitcode_untyped.specs.declared.value.Value.{Value}
use Rattle.bitcode_untyped.proofs.EachLemmas.{each_if}
use Rattle.bitcode_serde.specs.Leaves.{IsEntryIn, HasOther}
use Rattle.bitcode_serde.specs.ReadColumns.{kind_of, IsCaseOf}
use Rattle.bitcode_serde.specs.ReadingValues.{HasColumn}
use Rattle.bitcode_serde.specs.Serializing.{Outcome}
use Rattle.bitcode_serde.specs.Writing.{written, place_in, Writes, AreOfShape, IsAmong}
use Rattle.bitcode_serde.specs.declared.column.ColumnKind.{ColumnKind}
use Rattle.bitcode_serde.specs.declared.writer.state.Writer.{Writer}
use Rattle.bitcode_serde.proofs.LeafLemmas.{leaves_whole}
use Rattle.bitcode_serde.proofs.WalkLemmas.{use_outcome}
use Rattle.bitcode_serde.proofs.SerializeLemmas.{grows_same, writes_none, list_refused, refused_outcome, entries_outcome, same_outcome, among_back}

-- where one value of another case has one fault, that is one of all faults
other_among : (kind : ColumnKind) (faults : Value → List Reason) (reason : Reason) → ((v : Value) → (IsCaseOf kind v → ⊥) → faults v ≡ reason ∷ [])
    → (vs : List Value) → HasOther kind vs → IsAmong reason (flat_map faults vs)
other_among kind faults reason fault [] h = absurd h
other_among kind faults reason fault (v ∷ vs) (inl other) = rw (fault v other) (inl refl)
other_among kind faults reason fault (v ∷ vs) (inr h) = among_back reason (faults v) (flat_map faults vs) (other_among kind faults reason fault vs h)

pub leaves_outcome : {B : Type 0} (n : ShapeNode) (kind : ColumnKind) (vs : List Value) (old start now : Writer) (place m : ℕ) (r : Result B Error)
    → HasColumn n kind
    → Writes old (use_at (place_in old place) length_kind (natural (length vs)) ∷ []) start → place_in start m ≡ element ∷ place_in old place
    → m ≤ length start.places.below.items
    → OnOk r (now.places.below ≡ start.places.below)
    → OnOk r (written now ≡ put_all (map (use_at (place_in start m) (kind_of kind)) (map datum_of vs)) (written start))
    → OnOk r (AllByRecursion (IsEntryIn kind) vs)
    → IfErr r (λ e. (root : ShapeTree) → AreOfShape root (written start) → HasKindFrom root [] (place_in start m) (kind_of kind)
    → (e.reason ≡ OutOfMemory) ⊎ ((e.reason ≡ NotOfTheShape) × HasOther kind vs))
    → (table : List ShapeNode) (left : ℕ)
    → Outcome old (seq_tree (tree_of_node left table n)) place (list (data_of (map datum_of vs))) (flat_map (λ v. faults_of table v left n) vs) r now
leaves_outcome n kind vs old start now place m (Ok b) has first at inside below more entries refused table left =
    let leaf = leaf_tree (kind_of kind) any_number in
    same_outcome old (seq_tree (tree_of_node left table n)) (seq_tree leaf) place _ _ (flat_map (λ v. faults_of table v left n) vs) [] (Ok b) now
    (ap seq_tree (has.tree (followed left table))) refl
    (leaves_whole n kind table left has vs (each_if (IsEntryIn kind) (IsCaseOf kind) (λ v e. e.case) vs entries))
    (entries_outcome (kind_of kind) any_number datum_of vs old start now place m (Ok b) first at inside
    (each_if (IsEntryIn kind) (λ v. IsOf leaf (datum_of v)) (λ v e. (e.entry, tt)) vs entries) below more tt)
leaves_outcome n kind vs old start now place m (Err e) has first at inside below more entries refused table left =
    let s = tree_of_node left table n in
    let p = place_in start m in
    let faults = flat_map (λ v. faults_of table v left n) vs in
    let there : HasKindFrom s p p (kind_of kind) = subst (λ t. HasKindFrom t p p (kind_of kind)) (sym (has.tree (followed left table))) (refl, refl) in
    refused_outcome old (seq_tree s) place _ faults (Err e) now e e refl refl
    (list_refused s datum_of vs old start start place m (length vs) 0 faults faults e.reason first at inside
    (writes_none start start (grows_same start start refl) refl) (λ h. h)
    (λ root of_shape part. elim (refused root of_shape (part p (kind_of kind) there)) [
      | inl memory ↦ inl memory
      | inr away ↦ inr (subst (λ reason. IsAmong reason faults) (sym away.0)
          (other_among kind (λ v. faults_of table v left n) NotOfTheShape (λ v h. has.other v h table left) vs away.1))
    ]))

-- a value that was written by itself
pub value_outcome : {B : Type 0} (n : ShapeNode) (kind : ColumnKind) (v : Value) (old now : Writer) (place : ℕ) (r : Result B Error)
    → HasColumn n kind
    → OnOk r (now.places.below ≡ old.places.below)
    → OnOk r (written now ≡ put_all (map (use_at (place_in old place) (kind_of kind)) (map datum_of (v ∷ []))) (written old))
    → OnOk r (AllByRecursion (IsEntryIn kind) (v ∷ []))
    → IfErr r (λ e. (root : ShapeTree) → AreOfShape root (written old) → HasKindFrom root [] (place_in old place) (kind_of kind)
    → (e.reason ≡ OutOfMemory) ⊎ ((e.reason ≡ NotOfTheShape) × HasOther kind (v ∷ [])))
    → (table : List ShapeNode) (left : ℕ) → Outcome old (tree_of_node left table n) place (datum_of v) (faults_of table v left n) r now
value_outcome n kind v old now place (Ok b) has below more entries refused table left =
    let leaf = leaf_tree (kind_of kind) any_number in
    same_outcome old (tree_of_node left table n) leaf place (datum_of v) (datum_of v) (faults_of table v left n) [] (Ok b) now
    (has.tree (followed left table)) refl (has.whole v entries.0.case table left)
    (use_outcome old now leaf place (datum_of v) (datum_of v) (kind_of kind) (Ok b) refl (refl, refl) (entries.0.entry, tt) below more tt)
value_outcome n kind v old now place (Err e) has below more entries refused table left =
    let p = place_in old place in
    let s = tree_of_node left table n in
    let there : HasKindFrom s p p (kind_of kind) = subst (λ t. HasKindFrom t p p (kind_of kind)) (sym (has.tree (followed left table))) (refl, refl) in
    record {
      written = tt;
      of_tree = tt;
      whole = tt;
      refused = λ root of_shape part. elim (refused root of_shape (part p (kind_of kind) there)) [
        | inl memory ↦ inl memory
        | inr away ↦ elim away.1 [
          | inl other ↦ inr (subst (IsAmong e.reason) (sym (has.other v other table left)) (inl away.0))
          | inr never ↦ absurd never
        ]
      ];
    }
