-- A reference takes one from those that are left, and the parts of a node are less deep.
use Rattle.std.proofs.Common.{◌≡◌, ◌≤◌, ◌+◌, ◌-◌, ◌*◌, length, max, [], ◌++◌, flat_map}
use Rattle.bitcode_shapes.specs.Datum.{pair}
use Rattle.bitcode_untyped.specs.Faults.{faults_of}
use Rattle.bitcode_untyped.specs.View.{datum_of, tree_of_node}
use Rattle.bitcode_serde.specs.Budget.{IsLeft, KeepsEach}
use Rattle.bitcode_serde.specs.Depth.{depth, deepest, left_below}
use Rattle.bitcode_serde.specs.ReadingValues.{Continues, ReadsListWithin}
use Rattle.bitcode_serde.proofs.CaseLemmas.{AreWhole}
use Rattle.bitcode_serde.proofs.FieldLemmas.{FieldsAt}
use Rattle.bitcode_serde.proofs.ValueLemmas.{ReadsPairsAt}
use Rattle.bitcode_serde.proofs.values.+read.Given as goal

abbrev pub decreases-read : goal.decreases-read
decreases-read l = 5 * left_below l.left l.table.now (depth l.node.now) + 1

abbrev pub decreases-read_behind : goal.decreases-read_behind
decreases-read_behind l = 5 * left_below l.left l.table.now (depth l.node.now) + 2

abbrev pub decreases-read_node : goal.decreases-read_node
decreases-read_node l = 5 * left_below l.left l.table.now (depth l.node.now)

abbrev pub decreases-read_option : goal.decreases-read_option
decreases-read_option l = 5 * left_below l.left l.table.now (depth l.node.now) + 2

abbrev pub decreases-read_seq : goal.decreases-read_seq
decreases-read_seq l = 5 * left_below l.left l.table.now (depth l.node.now) + 3

abbrev pub decreases-read_elements : goal.decreases-read_elements
decreases-read_elements l = 5 * left_below l.left l.table.now (depth l.node.now) + 2

abbrev pub decreases-read_tuple : goal.decreases-read_tuple
decreases-read_tuple l = 5 * left_below l.left l.table.now (deepest l.nodes.now) + 4

abbrev pub decreases-read_field : goal.decreases-read_field
decreases-read_field l = 5 * left_below l.left l.table.now (depth l.node.now) + 3

abbrev pub decreases-read_enum : goal.decreases-read_enum
decreases-read_enum l = 5 * left_below l.left l.table.now (deepest l.nodes.now) + 2

abbrev pub decreases-read_map : goal.decreases-read_map
decreases-read_map l = 5 * left_below l.left l.table.now (max (depth l.key.now) (depth l.value.now)) + 2

abbrev pub invariant-read_elements-loop-i : goal.invariant-read_elements-loop-i
invariant-read_elements-loop-i l =
    Continues l.initial.reader l.reader
    × ReadsListWithin (tree_of_node l.left l.table l.node) l.place l.initial.reader l.initial.budget l._i l.values.items l.reader l.budget
    × (IsLeft l.budget → flat_map (λ v. faults_of l.table v l.left l.node) l.values.items ≡ [])

abbrev pub decreases-read_tuple-loop-i : goal.decreases-read_tuple-loop-i
decreases-read_tuple-loop-i l = length l.nodes - l.i

abbrev pub invariant-read_tuple-loop-i : goal.invariant-read_tuple-loop-i
invariant-read_tuple-loop-i l =
    Continues l.initial.reader l.reader
    × KeepsEach datum_of (λ ds. FieldsAt (tree_of_node l.left l.table) l.nodes l.place l.initial.reader l.i ds l.reader) l.initial.budget l.values.items l.budget
    × (IsLeft l.budget → AreWhole l.table l.left l.nodes l.i l.values.items)
    × (l.met ≤ l.i)
    × (l.i ≤ length l.nodes)

abbrev pub invariant-read_map-loop-i : goal.invariant-read_map-loop-i
invariant-read_map-loop-i l =
    Continues l.initial.reader l.reader
    × KeepsEach (λ e. pair (datum_of e.0) (datum_of e.1))
    (λ ds. ReadsPairsAt (tree_of_node l.left l.table l.key) (tree_of_node l.left l.table l.value) l.keys l.values l.initial.reader l._i ds l.reader)
    l.initial.budget l.pairs.items l.budget
    × (IsLeft l.budget → flat_map (λ e. faults_of l.table e.0 l.left l.key ++ faults_of l.table e.1 l.left l.value) l.pairs.items ≡ [])
