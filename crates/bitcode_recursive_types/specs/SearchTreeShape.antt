-- The shapes of `SearchTree`, and the content of their values. Written by `scripts/second_format`.
use Rattle.std.specs.Prelude.{ℕ, zero, suc}
use Rattle.bitcode_serde_types.specs.Written.{Datum, tuple, no_data, datum_and, width_4, natural, ShapeTree, ShapeTrees, never_tree, natural_tree, option_tree, tuple_tree, no_trees, tree_and, IsSound, option_datum, KeepsAll}
use Rattle.bitcode_recursive_types.specs.declared.search_tree.SearchTree.{SearchTree, fold-SearchTree}
use Rattle.bitcode_recursive_types.specs.declared.search_tree.SearchTree.TheOpen.{SearchTree-F}

-- by how many references may be followed on one path
abbrev pub search_tree_tree : ℕ → ShapeTree
search_tree_tree zero = never_tree
search_tree_tree (suc left) = tuple_tree (tree_and (option_tree (search_tree_tree left)) (tree_and (natural_tree 4) (tree_and (option_tree (search_tree_tree left)) no_trees)))

-- the fields of `SearchTree`
abbrev pub search_tree_trees : ℕ → ShapeTrees
search_tree_trees left = (tree_and (option_tree (search_tree_tree left)) (tree_and (natural_tree 4) (tree_and (option_tree (search_tree_tree left)) no_trees)))

-- one level, with the content of each value inside in its place
abbrev pub search_tree_step : SearchTree-F Datum → Datum
search_tree_step t = tuple (datum_and (option_datum (λ b. b.value) t.left) (datum_and (natural t.key) (datum_and (option_datum (λ b. b.value) t.right) no_data)))

abbrev pub search_tree_datum : SearchTree → Datum
search_tree_datum = fold-SearchTree Datum search_tree_step

pub search_tree_sound : (left : ℕ) → IsSound (search_tree_tree left)
search_tree_sound zero = tt
search_tree_sound (suc left) = ((tt, ((search_tree_sound left), tt)), (width_4, ((tt, ((search_tree_sound left), tt)), tt)))

-- a value keeps all that was read: no map or heap is in it
pub search_tree_plain : (left : ℕ) → KeepsAll (search_tree_tree left)
search_tree_plain zero = tt
search_tree_plain (suc left) = ((tt, ((search_tree_plain left), tt)), (tt, ((tt, ((search_tree_plain left), tt)), tt)))
