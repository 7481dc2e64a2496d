-- The shapes of `Node`, and the content of their values. Written by `scripts/second_format`.
use Rattle.std.specs.Prelude.{ℕ, zero, suc, map, string_bytes}
use Rattle.bitcode_serde_types.specs.Written.{Datum, number, text, list, tuple, no_data, datum_and, data_of, width_1, width_4, natural, truth, ShapeTree, ShapeTrees, never_tree, bool_tree, natural_tree, integer_tree, text_tree, seq_tree, tuple_tree, no_trees, tree_and, IsSound, KeepsAll}
use Rattle.bitcode_recursive_types.specs.declared.node.Node.{Node, fold-Node}
use Rattle.bitcode_recursive_types.specs.declared.node.Node.TheOpen.{Node-F}

-- by how many references may be followed on one path
abbrev pub node_tree : ℕ → ShapeTree
node_tree zero = never_tree
node_tree (suc left) = tuple_tree (tree_and text_tree (tree_and (integer_tree 4) (tree_and (seq_tree (node_tree left)) (tree_and (seq_tree (tuple_tree (tree_and (natural_tree 1) (tree_and bool_tree no_trees)))) no_trees))))

-- the fields of `Node`
abbrev pub node_trees : ℕ → ShapeTrees
node_trees left = (tree_and text_tree (tree_and (integer_tree 4) (tree_and (seq_tree (node_tree left)) (tree_and (seq_tree (tuple_tree (tree_and (natural_tree 1) (tree_and bool_tree no_trees)))) no_trees))))

-- one level, with the content of each value inside in its place
abbrev pub node_step : Node-F Datum → Datum
node_step t = tuple (datum_and (text (string_bytes t.name)) (datum_and (number t.weight) (datum_and (list (data_of t.children.items)) (datum_and (list (data_of (map (λ t. tuple (datum_and (natural t.0) (datum_and (truth t.1) no_data))) t.labels.items))) no_data))))

abbrev pub node_datum : Node → Datum
node_datum = fold-Node Datum node_step

pub node_sound : (left : ℕ) → IsSound (node_tree left)
node_sound zero = tt
node_sound (suc left) = (tt, (width_4, ((node_sound left), ((width_1, (tt, tt)), tt))))

-- a value keeps all that was read: no map or heap is in it
pub node_plain : (left : ℕ) → KeepsAll (node_tree left)
node_plain zero = tt
node_plain (suc left) = (tt, (tt, ((node_plain left), ((tt, (tt, tt)), tt))))
