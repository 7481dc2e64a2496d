-- What a `Value` holds, and which shape a `ShapeNode` names.
use Rattle.std.specs.Prelude.{ℕ, zero, suc, Option, Some, None, List, [], ◌∷◌, map}
use Rattle.bitcode_shapes.specs.Datum.{Datum, unit, list, tuple, choice, pair, data_of}
use Rattle.bitcode_coder.specs.Spelling.{natural}
use Rattle.bitcode_untyped.specs.Leaves.{Leaf, Entry, leaf_of_node, entry_of}
use Rattle.bitcode_untyped.specs.ShapeTree.{ShapeTree, ShapeTrees, unit_tree, never_tree, leaf_tree, seq_tree, map_tree, tuple_tree, choice_tree, no_trees, tree_and, natural_tree, option_tree}
use Rattle.bitcode_untyped.specs.declared.value.Value.{Value, fold-Value}
use Rattle.bitcode_untyped.specs.declared.value.Value.TheOpen.{Value-F}
use Rattle.bitcode_untyped.specs.declared.shape.ShapeNode.{ShapeNode, fold-ShapeNode}
use Rattle.bitcode_untyped.specs.declared.shape.ShapeNode.TheOpen.{ShapeNode-F}
use Rattle.bitcode_untyped.specs.declared.shape.Shape.{Shape}

-- ---- values

abbrev pub datum_of_entry : Option Entry → Datum
datum_of_entry (Some e) = e.datum
datum_of_entry None = unit

-- one level, with the datum of each value inside in its place
abbrev pub datum_step : Value-F Datum → Datum
datum_step Value-F.Unit = unit
datum_step (Value-F.Bytes v) = list (data_of (map natural v.items))
datum_step (Value-F.Option None) = choice 0 unit
datum_step (Value-F.Option (Some b)) = choice 1 b.value
datum_step (Value-F.Seq v) = list (data_of v.items)
datum_step (Value-F.Map v) = list (data_of (map (λ e. pair e.0 e.1) v.items))
datum_step (Value-F.Tuple v) = tuple (data_of v.items)
datum_step (Value-F.Enum i b) = choice i b.value
datum_step value = datum_of_entry (entry_of value)

abbrev pub datum_of : Value → Datum
datum_of = fold-Value Datum datum_step

-- ---- shapes

abbrev pub trees_of : List ShapeTree → ShapeTrees
trees_of [] = no_trees
trees_of (s ∷ ss) = tree_and s (trees_of ss)

abbrev pub tree_of_leaf : Option Leaf → ShapeTree
tree_of_leaf (Some leaf) = leaf_tree leaf.kind leaf.allowed
tree_of_leaf None = never_tree

-- one level, with the tree of each node inside in its place; `follow i` is the tree of reference i
abbrev pub tree_step : (ℕ → ShapeTree) → ShapeNode-F ShapeTree → ShapeTree
tree_step follow ShapeNode-F.Unit = unit_tree
tree_step follow ShapeNode-F.Bytes = seq_tree (natural_tree 1)
tree_step follow (ShapeNode-F.Option b) = option_tree b.value
tree_step follow (ShapeNode-F.Seq b) = seq_tree b.value
tree_step follow (ShapeNode-F.Map k v) = map_tree k.value v.value
tree_step follow (ShapeNode-F.Tuple v) = tuple_tree (trees_of v.items)
tree_step follow (ShapeNode-F.Enum v) = choice_tree (trees_of v.items)
tree_step follow (ShapeNode-F.Ref i) = follow i
tree_step follow node = tree_of_leaf (leaf_of_node node)

abbrev pub tree_by : (ℕ → ShapeTree) → ShapeNode → ShapeTree
tree_by follow = fold-ShapeNode ShapeTree (tree_step follow)

abbrev pub entry_tree : (ℕ → ShapeTree) → List ShapeNode → ℕ → ShapeTree
entry_tree follow [] i = never_tree
entry_tree follow (n ∷ ns) zero = tree_by follow n
entry_tree follow (n ∷ ns) (suc i) = entry_tree follow ns i

-- Entry i of the table as a tree, which follows fewer references on a path than the number says. Nothing is of a
-- shape where one more is followed.
unfoldable pub followed : ℕ → List ShapeNode → ℕ → ShapeTree
followed zero table i = never_tree
followed (suc left) table i = entry_tree (followed left table) table i

-- how many references are followed on one path
abbrev pub reference_limit : ℕ
reference_limit = 512

-- the tree of a node, below which so many references may still be followed
abbrev pub tree_of_node : ℕ → List ShapeNode → ShapeNode → ShapeTree
tree_of_node left table = tree_by (followed left table)

-- the tree of a whole shape
abbrev pub tree_of : Shape → ShapeTree
tree_of shape = followed (suc reference_limit) shape.table.items shape.root
