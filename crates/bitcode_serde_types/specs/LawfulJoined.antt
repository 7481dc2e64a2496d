-- Fields in two parts have columns that there are, if those of each part do.
use Rattle.bitcode_untyped.specs.ShapeTree.{ShapeTrees, no_trees, tree_and, AreSound}
use Rattle.bitcode_serde_types.specs.Joined.{joined}

pub joined_sound : (ps rs : ShapeTrees) → AreSound ps → AreSound rs → AreSound (joined ps rs)
joined_sound no_trees rs h k = k
joined_sound (tree_and s ps) rs h k = (h.0, joined_sound ps rs h.1 k)
