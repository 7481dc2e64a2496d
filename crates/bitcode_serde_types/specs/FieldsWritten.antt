-- What writing some fields of a tuple leaves.
use Rattle.std.specs.Prelude.{◌≡◌, ℕ, suc, ◌+◌, Result, OnOk, IfErr, List, []}
use Rattle.bitcode_memory.specs.declared.error.Error.{Error}
use Rattle.bitcode_memory.specs.declared.error.Reason.{Reason}
use Rattle.bitcode_shapes.specs.Datum.{Data}
use Rattle.bitcode_coder.specs.Columns.{Kind}
use Rattle.bitcode_untyped.specs.PlaceKinds.{HasKindFrom, HasKindAt}
use Rattle.bitcode_untyped.specs.ShapeTree.{ShapeTree, ShapeTrees, no_trees, tree_and, AreOf}
use Rattle.bitcode_untyped.specs.Walk.{Place, walk_fields}
use Rattle.bitcode_serde.specs.ReadingValues.{field_at}
use Rattle.bitcode_serde.specs.Writing.{written, place_in, Writes, AreOfShape, IsWriterReason}
use Rattle.bitcode_serde.specs.declared.writer.state.Writer.{Writer}

abbrev pub tree_count : ShapeTrees → ℕ
tree_count no_trees = 0
tree_count (tree_and s ss) = suc (tree_count ss)

-- where the fields of a tuple of so many stand
abbrev pub places_of_fields : Writer → ℕ → ℕ → ℕ → Place
places_of_fields w n fields i = field_at fields (place_in w n) i

-- the columns of fields from the i-th on are those of the shape
abbrev pub ArePartsOf : ShapeTree → ShapeTrees → (ℕ → Place) → ℕ → Type 0
ArePartsOf root trees at i = (j : ℕ) (q : Place) (kind : Kind) → HasKindAt trees j (at (i + j)) q kind → HasKindFrom root [] q kind

-- The fields from the i-th on of a tuple of so many were written, or the writing was refused for a fault of theirs.
pub record FieldsOutcome {A : Type 0} (old : Writer) (trees : ShapeTrees) (n i fields : ℕ) (ds : Data) (faults : List Reason) (result : Result A Error) (new : Writer) :
    Type 0 where
  pub writes : OnOk result (Writes old (walk_fields trees (places_of_fields old n fields) i ds) new)
  pub of_trees : OnOk result (AreOf trees ds)
  pub whole : OnOk result (faults ≡ [])
  pub refused :
      IfErr result
      (λ e. (root : ShapeTree) → AreOfShape root (written old) → ArePartsOf root trees (places_of_fields old n fields) i
      → IsWriterReason e.reason faults)
