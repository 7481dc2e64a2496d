-- The parts of a node are less deep, and fewer fields are left.
use Rattle.std.proofs.Common.{ℕ, ◌+◌, ◌*◌, ◌^◌, length, map, max, take}
use Rattle.bitcode_schema.specs.Choosing.{WritesPayloads}
use Rattle.bitcode_schema.specs.Depth.{depth, greatest}
use Rattle.bitcode_schema.specs.Parts.{payloads_under}
use Rattle.bitcode_schema.specs.Views.{variant_in}
use Rattle.bitcode_schema.proofs.write.+write.Given as goal

-- a number of steps down a node, as the greater part of a measure
abbrev steps : ℕ → ℕ → ℕ
steps deep step = (16 * deep + step) * 2 ^ 64

abbrev pub decreases-write_each : goal.decreases-write_each
decreases-write_each l = steps (depth l.node.now) 8

abbrev pub decreases-write_lists : goal.decreases-write_lists
decreases-write_lists l = steps (depth l.element.now) 9

abbrev pub decreases-write_maps : goal.decreases-write_maps
decreases-write_maps l = steps (max (depth l.key.now) (depth l.value.now)) 9

abbrev pub decreases-write_arrays : goal.decreases-write_arrays
decreases-write_arrays l = steps (depth l.element.now) 9

abbrev pub decreases-write_rows : goal.decreases-write_rows
decreases-write_rows l = steps (greatest (map depth (map (λ n. n.now) l.nodes.now))) 10

abbrev pub decreases-write_fields : goal.decreases-write_fields
decreases-write_fields l = steps (greatest (map depth (map (λ n. n.now) l.nodes.now))) 9 + length l.nodes.now

abbrev pub decreases-write_options : goal.decreases-write_options
decreases-write_options l = steps (depth l.some.now) 9

abbrev pub decreases-write_choices : goal.decreases-write_choices
decreases-write_choices l = steps (greatest (map depth (map (λ n. n.now) l.nodes.now))) 9

abbrev pub decreases-write_single : goal.decreases-write_single
decreases-write_single l = steps (depth l.node.now) 9

abbrev pub decreases-write_results : goal.decreases-write_results
decreases-write_results l = steps (max (depth l.ok.now) (depth l.other.now)) 11

abbrev pub decreases-write_enums : goal.decreases-write_enums
decreases-write_enums l = steps (greatest (map depth (map (λ n. n.now) l.nodes.now))) 10

-- the payloads of the variants so far were written
abbrev pub invariant-write_choices-loop-i : goal.invariant-write_choices-loop-i
invariant-write_choices-loop-i l =
    WritesPayloads variant_in (payloads_under (map (λ n. n.now) (take l.i l.nodes))) 0 (map (λ h. (h.0, h.1.now)) l.held) l.initial.out.items l.out.items
