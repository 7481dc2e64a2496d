-- The shapes of `Comment`, and the content of their values. Written by `scripts/second_format`.
use Rattle.std.specs.Prelude.{ℕ, zero, suc}
use Rattle.bitcode_serde_types.specs.Written.{Datum, text, list, tuple, no_data, datum_and, data_of, ShapeTree, ShapeTrees, never_tree, text_tree, seq_tree, tuple_tree, no_trees, tree_and, IsSound, KeepsAll}
use Rattle.bitcode_recursive_types.specs.declared.comment.Comment.{Comment, fold-Comment}
use Rattle.bitcode_recursive_types.specs.declared.comment.Comment.TheOpen.{Comment-F}

-- by how many references may be followed on one path
abbrev pub comment_tree : ℕ → ShapeTree
comment_tree zero = never_tree
comment_tree (suc left) = tuple_tree (tree_and text_tree (tree_and (seq_tree (comment_tree left)) no_trees))

-- the fields of `Comment`
abbrev pub comment_trees : ℕ → ShapeTrees
comment_trees left = (tree_and text_tree (tree_and (seq_tree (comment_tree left)) no_trees))

-- one level, with the content of each value inside in its place
abbrev pub comment_step : Comment-F Datum → Datum
comment_step t = tuple (datum_and (text t.text.now) (datum_and (list (data_of t.replies.items)) no_data))

abbrev pub comment_datum : Comment → Datum
comment_datum = fold-Comment Datum comment_step

pub comment_sound : (left : ℕ) → IsSound (comment_tree left)
comment_sound zero = tt
comment_sound (suc left) = (tt, ((comment_sound left), tt))

-- a value keeps all that was read: no map or heap is in it
pub comment_plain : (left : ℕ) → KeepsAll (comment_tree left)
comment_plain zero = tt
comment_plain (suc left) = (tt, ((comment_plain left), tt))
