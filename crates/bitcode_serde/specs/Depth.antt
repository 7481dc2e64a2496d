-- How deep the nodes of a table are, and how far there is to go down in it.
use Rattle.std.specs.Prelude.{ℕ, ◌+◌, ◌*◌, max, List, [], ◌∷◌, map}
use Rattle.bitcode_untyped.specs.declared.shape.ShapeNode.{ShapeNode, fold-ShapeNode}
use Rattle.bitcode_untyped.specs.declared.shape.ShapeNode.TheOpen.{ShapeNode-F}

abbrev pub greatest : List ℕ → ℕ
greatest [] = 0
greatest (n ∷ ns) = max n (greatest ns)

-- one level, with the depth of each node inside in its place
abbrev pub depth_step : ShapeNode-F ℕ → ℕ
depth_step (ShapeNode-F.Option b) = b.value + 1
depth_step (ShapeNode-F.Seq b) = b.value + 1
depth_step (ShapeNode-F.Map k v) = max k.value v.value + 1
depth_step (ShapeNode-F.Tuple v) = greatest v.items + 1
depth_step (ShapeNode-F.Enum v) = greatest v.items + 1
depth_step _ = 0

abbrev pub depth : ShapeNode → ℕ
depth = fold-ShapeNode ℕ depth_step

-- of the deepest of several
abbrev pub deepest : List ShapeNode → ℕ
deepest ns = greatest (map depth ns)

-- what is left to go down from a depth, where so many references may still be followed
abbrev pub left_below : ℕ → List ShapeNode → ℕ → ℕ
left_below left table here = left * (deepest table + 1) + here
