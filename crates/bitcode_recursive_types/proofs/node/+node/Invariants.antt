-- Written by `scripts/second_format`.
use Rattle.bitcode_serde_types.proofs.StepsRead.{ItemsKept}
use Rattle.bitcode_recursive_types.specs.NodeShape.{node_tree, node_datum}
use Rattle.bitcode_recursive_types.proofs.node.+node.Given as goal

abbrev pub decreases-read_node : goal.decreases-read_node
decreases-read_node l = l.left

abbrev pub invariant-loop-i : goal.invariant-loop-i
invariant-loop-i l =
    ItemsKept node_datum (node_tree l.below) l.found2.place l.initial.reader l.initial.budget l._i l.children.items l.reader l.budget
