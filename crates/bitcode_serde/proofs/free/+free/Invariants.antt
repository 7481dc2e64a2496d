-- A reference takes one from those that are left, and the parts of a node are less deep.
use Rattle.std.proofs.Common.{◌≡◌, ◌+◌, ◌*◌, true, take}
use Rattle.std.specs.List.{list_all}
use Rattle.bitcode_untyped.specs.Bounds.{column_free}
use Rattle.bitcode_untyped.specs.View.{tree_of_node}
use Rattle.bitcode_serde.specs.Depth.{depth, deepest, left_below}
use Rattle.bitcode_serde.proofs.free.+free.Given as goal

abbrev pub decreases-are_free : goal.decreases-are_free
decreases-are_free l = 2 * left_below l.left l.table.now (deepest l.nodes.now) + 1

abbrev pub decreases-is_free : goal.decreases-is_free
decreases-is_free l = 2 * left_below l.left l.table.now (depth l.node.now)

abbrev pub invariant-are_free-loop-node : goal.invariant-are_free-loop-node
invariant-are_free-loop-node l = list_all (λ n. column_free (tree_of_node l.left l.table n)) (take l.node-index l.nodes) ≡ true
