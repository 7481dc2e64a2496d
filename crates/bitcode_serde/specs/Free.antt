-- Nodes without columns, among others.
use Rattle.std.specs.Prelude.{◌≡◌, ◌<◌, ◌≤◌, ℕ, true, Some, slice_get, List}
use Rattle.bitcode_untyped.specs.Bounds.{column_free}
use Rattle.bitcode_untyped.specs.ShapeTree.{ShapeTree}
use Rattle.bitcode_untyped.specs.declared.shape.ShapeNode.{ShapeNode}

-- the nodes from one on, up to another, have no columns
abbrev pub AreFreeBetween : (ShapeNode → ShapeTree) → List ShapeNode → ℕ → ℕ → Type 0
AreFreeBetween tree nodes from to = (i : ℕ) (n : ShapeNode) → from ≤ i → i < to → slice_get nodes i ≡ Some n → column_free (tree n) ≡ true
