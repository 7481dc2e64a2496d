-- The tree of a reference is that of the entry, with one reference less to follow.
use Rattle.std.proofs.Common.{◌≡◌, ℕ, zero, suc, ◌<◌, ◌-◌, List, [], ◌∷◌, Some, None, slice_get, refl, ◌∙◌, ap, arith, sub-one}
use Rattle.bitcode_untyped.specs.ShapeTree.{ShapeTree, never_tree}
use Rattle.bitcode_untyped.specs.View.{tree_by, entry_tree, followed, tree_of_node, tree_of, reference_limit}
use Rattle.bitcode_untyped.specs.declared.shape.Shape.{Shape}
use Rattle.bitcode_untyped.specs.declared.shape.ShapeNode.{ShapeNode}

pub followed-zero : (table : List ShapeNode) (i : ℕ) → followed 0 table i ≡ never_tree
unfolding followed
followed-zero table i = refl

pub followed-suc : (left : ℕ) (table : List ShapeNode) (i : ℕ) → followed (suc left) table i ≡ entry_tree (followed left table) table i
unfolding followed
followed-suc left table i = refl

pub followed_one : (left : ℕ) (table : List ShapeNode) (i : ℕ) → 0 < left → followed left table i ≡ entry_tree (followed (left - 1) table) table i
followed_one zero table i h = absurd (omega arith)
followed_one (suc left) table i h = rw sub-one (followed-suc left table i)

pub entry_there : (follow : ℕ → ShapeTree) (table : List ShapeNode) (i : ℕ) (n : ShapeNode) → slice_get table i ≡ Some n
    → entry_tree follow table i ≡ tree_by follow n
entry_there follow [] i n h = cc
entry_there follow (m ∷ ms) zero n h = let e : m ≡ n = cc in ap (tree_by follow) e
entry_there follow (m ∷ ms) (suc i) n h = entry_there follow ms i n h

pub entry_away : (follow : ℕ → ShapeTree) (table : List ShapeNode) (i : ℕ) → slice_get table i ≡ None → entry_tree follow table i ≡ never_tree
entry_away follow [] i h = refl
entry_away follow (m ∷ ms) zero h = cc
entry_away follow (m ∷ ms) (suc i) h = entry_away follow ms i h

-- the tree of a reference that may be followed, at its entry
pub reference_tree : (left : ℕ) (table : List ShapeNode) (i : ℕ) (n : ShapeNode) → slice_get table i ≡ Some n
    → followed (suc left) table i ≡ tree_of_node left table n
reference_tree left table i n there = followed-suc left table i ∙ entry_there (followed left table) table i n there

-- the tree of a shape, at its root
pub root_tree : (shape : Shape) (n : ShapeNode) → slice_get shape.table.items shape.root ≡ Some n
    → tree_of shape ≡ tree_of_node reference_limit shape.table.items n
root_tree shape n there = reference_tree reference_limit shape.table.items shape.root n there
