-- Nodes are deeper than their parts.
use Rattle.std.proofs.Common.{◌≡◌, ℕ, zero, suc, ◌+◌, ◌-◌, ◌*◌, ◌<◌, ◌≤◌, List, [], ◌∷◌, Some, slice_get, Vec, Global, arith, sub-one, sym, ap, ◌∙◌}
use Rattle.bitcode_untyped.specs.declared.shape.ShapeNode.{ShapeNode}
use Rattle.bitcode_untyped.specs.declared.shape.ShapeNode.TheOpen.{ShapeNode-F}
use Rattle.bitcode_untyped.specs.declared.shape.ShapeNode.TheFolds.{fold-roll-ShapeNode}
use Rattle.bitcode_untyped.specs.declared.shape.ShapeNode.TheVariants as node
use Rattle.bitcode_serde.specs.Depth.{depth_step, depth, deepest, left_below}

pub depth-Tuple : (v : Vec ShapeNode Global) → depth (node.Tuple v) ≡ deepest v.items + 1
depth-Tuple v = ap depth (sym (node.rolls-Tuple v)) ∙ fold-roll-ShapeNode _ depth_step (ShapeNode-F.Tuple v)

pub entry_deep : (table : List ShapeNode) (i : ℕ) (n : ShapeNode) → slice_get table i ≡ Some n → depth n ≤ deepest table
entry_deep [] i n h = cc
entry_deep (m ∷ ms) zero n h = let e : m ≡ n = cc in rw (← e) (omega arith)
entry_deep (m ∷ ms) (suc i) n h = let k = entry_deep ms i n h in omega arith

-- What is left to go down falls where a reference is followed.
pub reference_falls : (left : ℕ) (table : List ShapeNode) (i here : ℕ) (n : ShapeNode) → slice_get table i ≡ Some n → 0 < left
    → left_below (left - 1) table (depth n) < left_below left table here
reference_falls zero table i here n h k = absurd (omega arith)
reference_falls (suc left) table i here n h k =
    let d = entry_deep table i n h in
    let e : suc left * (deepest table + 1) ≡ left * (deepest table + 1) + (deepest table + 1) = omega arith in
    rw sub-one (omega arith)
