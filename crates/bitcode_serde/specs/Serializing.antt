-- What writing a value under a node leaves.
use Rattle.std.specs.Prelude.{◌≡◌, ℕ, zero, suc, Result, OnOk, IfErr, List, [], ◌∷◌, Bool, true, false}
use Rattle.bitcode_memory.specs.declared.error.Error.{Error}
use Rattle.bitcode_memory.specs.declared.error.Reason.{Reason}
use Rattle.bitcode_shapes.specs.Datum.{Datum}
use Rattle.bitcode_shapes.specs.Shape.{Allowed}
use Rattle.bitcode_coder.specs.Columns.{Kind}
use Rattle.bitcode_untyped.specs.Content.{content_of, IsOnlyContent}
use Rattle.bitcode_untyped.specs.Faults.{faults_of}
use Rattle.bitcode_untyped.specs.ShapeTree.{ShapeTree, leaf_tree, ShapeTrees, no_trees, tree_and, IsOf}
use Rattle.bitcode_untyped.specs.Spelling.{SpellsDatum}
use Rattle.bitcode_untyped.specs.View.{datum_of, tree_by, tree_of}
use Rattle.bitcode_untyped.specs.Walk.{walk}
use Rattle.bitcode_untyped.specs.declared.shape.Shape.{Shape}
use Rattle.bitcode_untyped.specs.declared.shape.ShapeNode.{ShapeNode, out-ShapeNode}
use Rattle.bitcode_untyped.specs.declared.shape.ShapeNode.TheOpen.{ShapeNode-F}
use Rattle.bitcode_untyped.specs.declared.value.Value.{Value}
use Rattle.bitcode_serde.specs.Writing.{place_in, Writes, RefusesAt}
use Rattle.bitcode_serde.specs.declared.writer.state.Writer.{Writer}

-- A datum of a tree was written, or the writing was refused for a fault.
pub record Outcome {A : Type 0} (old : Writer) (tree : ShapeTree) (n : ℕ) (d : Datum) (faults : List Reason) (result : Result A Error) (new : Writer) : Type 0 where
  pub written : OnOk result (Writes old (walk tree (place_in old n) d) new)
  pub of_tree : OnOk result (IsOf tree d)
  pub whole : OnOk result (faults ≡ [])
  pub refused : IfErr result (λ e. RefusesAt old tree n faults e.reason)

-- The bytes are read as the value, cases and all, and as no other.
pub record IsReadAs (shape : Shape) (bytes : List ℕ) (v : Value) : Type 0 where
  pub spelled : SpellsDatum (tree_of shape) bytes (datum_of v)
  pub only : IsOnlyContent shape (SpellsDatum (tree_of shape) bytes) (content_of v)

-- a node whose values are entries of one column
abbrev pub is_leaf : ShapeNode-F ShapeNode → Bool
is_leaf ShapeNode-F.Unit = false
is_leaf ShapeNode-F.Bytes = false
is_leaf (ShapeNode-F.Option b) = false
is_leaf (ShapeNode-F.Seq b) = false
is_leaf (ShapeNode-F.Map k v) = false
is_leaf (ShapeNode-F.Tuple ns) = false
is_leaf (ShapeNode-F.Enum ns) = false
is_leaf (ShapeNode-F.Ref i) = false
is_leaf _ = true

abbrev pub IsLeaf : ShapeNode → Type 0
IsLeaf n = is_leaf (out-ShapeNode n) ≡ true

-- the value is an entry of the node's column
pub record IsEntryAt (n : ShapeNode) (v : Value) (kind : Kind) (d : Datum) : Type 0 where
  pub allowed : Allowed
  pub tree : (follow : ℕ → ShapeTree) → tree_by follow n ≡ leaf_tree kind allowed
  pub datum : datum_of v ≡ d
  pub of_tree : IsOf (leaf_tree kind allowed) d
  pub whole : (table : List ShapeNode) (left : ℕ) → faults_of table v left n ≡ []

-- the value has one fault, whatever the table is
abbrev pub HasOneFault : ShapeNode → Value → Reason → Type 0
HasOneFault n v reason = (table : List ShapeNode) (left : ℕ) → faults_of table v left n ≡ reason ∷ []

-- the tree is that of variant i
abbrev pub IsVariant : ShapeTrees → ℕ → ShapeTree → Type 0
IsVariant no_trees i t = ⊥
IsVariant (tree_and s ss) zero t = s ≡ t
IsVariant (tree_and s ss) (suc i) t = IsVariant ss i t
