-- Which tables a shape may have: each reference leads to an entry, and has something above it in its own entry that ends
-- a walk down, since an option may be empty, a list or map too, and an enum may be at another variant.
use Rattle.std.specs.Prelude.{ℕ, ◌<◌, Bool, true, false, ◌&&◌, nat_lt, List, length}
use Rattle.std.specs.List.{list_all, AllPass}
use Rattle.bitcode_untyped.specs.declared.shape.ShapeNode.{ShapeNode, fold-ShapeNode}
use Rattle.bitcode_untyped.specs.declared.shape.ShapeNode.TheOpen.{ShapeNode-F}

-- one level; `below` is whether an option, list, map or enum stands above the node in its entry
abbrev pub refers_step : ℕ → ShapeNode-F (Bool → Bool) → Bool → Bool
refers_step count (ShapeNode-F.Option node) below = node.value true
refers_step count (ShapeNode-F.Seq node) below = node.value true
refers_step count (ShapeNode-F.Map key value) below = key.value true && value.value true
refers_step count (ShapeNode-F.Tuple nodes) below = list_all (λ node. node below) nodes.items
refers_step count (ShapeNode-F.Enum nodes) below = list_all (λ node. node true) nodes.items
refers_step count (ShapeNode-F.Ref i) below = below && nat_lt i count
refers_step count _ below = true

-- all references in the node are such, in a table of so many entries
abbrev pub refers_soundly : ℕ → ShapeNode → Bool → Bool
refers_soundly count = fold-ShapeNode (Bool → Bool) (refers_step count)

-- The root is an entry, and each entry's references are such.
pub record IsSoundTable (table : List ShapeNode) (root : ℕ) : Type 0 where
  pub root_in : root < length table
  pub entries : AllPass (λ node. refers_soundly (length table) node false) table
