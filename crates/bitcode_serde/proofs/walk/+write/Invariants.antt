-- A reference takes one from those that are left, and the parts of a node are less deep.
use Rattle.std.proofs.Common.{◌+◌, ◌*◌, ◌≤◌, max, length}
use Rattle.std.proofs.Common.{◌++◌}
use Rattle.bitcode_untyped.specs.Faults.{faults_of}
use Rattle.bitcode_untyped.specs.ShapeTree.{IsOf}
use Rattle.bitcode_untyped.specs.View.{datum_of, tree_of_node}
use Rattle.bitcode_untyped.specs.Walk.{walk}
use Rattle.bitcode_serde.specs.Writing.{place_in}
use Rattle.bitcode_serde.specs.Depth.{depth, deepest, left_below}
use Rattle.bitcode_serde.proofs.WalkLemmas.{EachWritten, FieldsWritten}
use Rattle.bitcode_serde.proofs.walk.+write.Given as goal

abbrev pub decreases-write : goal.decreases-write
decreases-write l = 5 * left_below l.left l.table.now (depth l.node.now) + 2

abbrev pub decreases-write_node : goal.decreases-write_node
decreases-write_node l = 5 * left_below l.left l.table.now (depth l.node.now) + 1

abbrev pub decreases-write_reference : goal.decreases-write_reference
decreases-write_reference l = 5 * left_below l.left l.table.now 0

abbrev pub decreases-write_variant : goal.decreases-write_variant
decreases-write_variant l = 5 * left_below l.left l.table.now (depth l.node.now) + 3

abbrev pub decreases-write_enum : goal.decreases-write_enum
decreases-write_enum l = 5 * left_below l.left l.table.now (deepest l.nodes.now) + 4

abbrev pub decreases-write_seq : goal.decreases-write_seq
decreases-write_seq l = 5 * left_below l.left l.table.now (depth l.node.now) + 3

abbrev pub decreases-write_map : goal.decreases-write_map
decreases-write_map l = 5 * left_below l.left l.table.now (max (depth l.key.now) (depth l.value.now)) + 3

abbrev pub decreases-write_tuple : goal.decreases-write_tuple
decreases-write_tuple l = 5 * left_below l.left l.table.now (deepest l.nodes.now) + 3

abbrev pub invariant-write_seq-loop-value : goal.invariant-write_seq-loop-value
invariant-write_seq-loop-value l =
    (l.element ≤ length l.initial.writer.places.below.items)
    × EachWritten (λ v. walk (tree_of_node l.left l.table l.node) (place_in l.initial.writer l.element) (datum_of v))
    (λ v. IsOf (tree_of_node l.left l.table l.node) (datum_of v)) (λ v. faults_of l.table v l.left l.node) l.values l.initial.writer l.value-index l.writer

abbrev pub invariant-write_map-loop-first : goal.invariant-write_map-loop-first
invariant-write_map-loop-first l =
    (l.keys ≤ length l.initial.writer.places.below.items) × (l.values ≤ length l.initial.writer.places.below.items)
    × EachWritten (λ e. walk (tree_of_node l.left l.table l.key) (place_in l.initial.writer l.keys) (datum_of e.0) ++ walk
    (tree_of_node l.left l.table l.value) (place_in l.initial.writer l.values) (datum_of e.1))
    (λ e. IsOf (tree_of_node l.left l.table l.key) (datum_of e.0) × IsOf (tree_of_node l.left l.table l.value) (datum_of e.1))
    (λ e. faults_of l.table e.0 l.left l.key ++ faults_of l.table e.1 l.left l.value) l.pairs l.initial.writer l.first-index l.writer

abbrev pub invariant-write_tuple-loop-i : goal.invariant-write_tuple-loop-i
invariant-write_tuple-loop-i l =
    FieldsWritten (tree_of_node l.left l.table) (faults_of l.table) l.left l.nodes l.values l.initial.writer l.place l.i l.writer
