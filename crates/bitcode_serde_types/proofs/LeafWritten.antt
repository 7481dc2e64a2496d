-- A leaf that was written by itself.
use Rattle.std.proofs.Common.{◌≡◌, ◌⊎◌, ℕ, inl, inr, [], ◌∷◌, map, refl}
use Rattle.std.specs.List.{AllByRecursion}
use Rattle.std.specs.Prelude.{Result, Ok, Err, OnOk, IfErr}
use Rattle.bitcode_memory.specs.declared.error.Error.{Error}
use Rattle.bitcode_memory.specs.declared.error.Reason.TheVariants.{OutOfMemory, NotOfTheShape}
use Rattle.bitcode_shapes.specs.Shape.{any_number}
use Rattle.bitcode_untyped.specs.Growing.{put_all}
use Rattle.bitcode_untyped.specs.PlaceKinds.{HasKindFrom}
use Rattle.bitcode_untyped.specs.ShapeTree.{ShapeTree, leaf_tree}
use Rattle.bitcode_untyped.specs.View.{datum_of}
use Rattle.bitcode_untyped.specs.Walk.{use_at}
use Rattle.bitcode_untyped.specs.declared.value.Value.{Value}
use Rattle.bitcode_serde.specs.Leaves.{IsEntryIn, HasOther}
use Rattle.bitcode_serde.specs.ReadColumns.{kind_of, IsCaseOf}
use Rattle.bitcode_serde.specs.Serializing.{Outcome}
use Rattle.bitcode_serde.specs.Writing.{written, place_in, AreOfShape}
use Rattle.bitcode_serde.specs.declared.column.ColumnKind.{ColumnKind}
use Rattle.bitcode_serde.specs.declared.writer.state.Writer.{Writer}
use Rattle.bitcode_serde.proofs.WalkLemmas.{use_outcome}

pub leaf_put : {B : Type 0} (kind : ColumnKind) (v : Value) (old now : Writer) (place : ℕ) (r : Result B Error) → IsCaseOf kind v
    → OnOk r (now.places.below ≡ old.places.below)
    → OnOk r (written now ≡ put_all (map (use_at (place_in old place) (kind_of kind)) (map datum_of (v ∷ []))) (written old))
    → OnOk r (AllByRecursion (IsEntryIn kind) (v ∷ []))
    → IfErr r (λ e. (root : ShapeTree) → AreOfShape root (written old) → HasKindFrom root [] (place_in old place) (kind_of kind)
    → (e.reason ≡ OutOfMemory) ⊎ ((e.reason ≡ NotOfTheShape) × HasOther kind (v ∷ [])))
    → Outcome old (leaf_tree (kind_of kind) any_number) place (datum_of v) [] r now
leaf_put kind v old now place (Ok b) case below more entries refused =
    use_outcome old now (leaf_tree (kind_of kind) any_number) place (datum_of v) (datum_of v) (kind_of kind) (Ok b) refl (refl, refl) (entries.0.entry, tt) below more tt
leaf_put kind v old now place (Err e) case below more entries refused = record {
  written = tt;
  of_tree = tt;
  whole = tt;
  refused = λ root of_shape part. elim (refused root of_shape (part (place_in old place) (kind_of kind) (refl, refl))) [
    | inl memory ↦ inl memory
    | inr away ↦ elim away.1 [ inl other ↦ absurd (other case) | inr never ↦ absurd never ]
  ];
}
