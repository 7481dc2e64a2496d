-- An array is a tuple whose fields have one shape.
use Rattle.std.specs.Prelude.{ℕ, zero, suc, List, map}
use Rattle.bitcode_shapes.specs.Datum.{Datum, tuple, data_of}
use Rattle.bitcode_untyped.specs.ShapeTree.{ShapeTree, ShapeTrees, no_trees, tree_and, tuple_tree, IsSound, AreSound}
use Rattle.bitcode_serde_types.specs.Restates.{KeepsAll, KeepAll}

-- the tree, so many times
abbrev pub repeated : ℕ → ShapeTree → ShapeTrees
repeated zero s = no_trees
repeated (suc n) s = tree_and s (repeated n s)

abbrev pub array_tree : ℕ → ShapeTree → ShapeTree
array_tree n s = tuple_tree (repeated n s)

abbrev pub array_datum : {A : Type 0} → (A → Datum) → List A → Datum
array_datum f xs = tuple (data_of (map f xs))

pub repeated_sound : (n : ℕ) (s : ShapeTree) → IsSound s → AreSound (repeated n s)
repeated_sound zero s h = tt
repeated_sound (suc n) s h = (h, repeated_sound n s h)

pub repeated_plain : (n : ℕ) (s : ShapeTree) → KeepsAll s → KeepAll (repeated n s)
repeated_plain zero s h = tt
repeated_plain (suc n) s h = (h, repeated_plain n s h)
