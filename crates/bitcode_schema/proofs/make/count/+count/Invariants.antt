-- The parts of a node are less deep, and fewer fields are left. The payloads of the variants so far were counted.
use Rattle.std.proofs.Common.{ℕ, ◌+◌, ◌-◌, ◌*◌, ◌^◌, max}
use Rattle.bitcode_memory.specs.Fast.{cow_rest}
use Rattle.bitcode_schema.specs.Depth.{depth}
use Rattle.bitcode_schema.specs.Forms.{shapes_of}
use Rattle.bitcode_schema.specs.Reading.{variant_shapes}
use Rattle.bitcode_schema.proofs.CountedLemmas.{CountedTo}
use Rattle.bitcode_schema.proofs.make.count.+count.Given as goal

-- a number of steps down a node, as the greater part of a measure
abbrev steps : ℕ → ℕ → ℕ
steps deep step = (8 * deep + step) * 2 ^ 64

abbrev pub decreases-count : goal.decreases-count
decreases-count l = steps (depth l.node.now) 5

abbrev pub decreases-count_lists : goal.decreases-count_lists
decreases-count_lists l = steps (depth l.element.now) 6

abbrev pub decreases-count_maps : goal.decreases-count_maps
decreases-count_maps l = steps (max (depth l.key.now) (depth l.value.now)) 6

abbrev pub decreases-count_arrays : goal.decreases-count_arrays
decreases-count_arrays l = steps (depth l.element.now) 6

abbrev pub decreases-count_tuples : goal.decreases-count_tuples
decreases-count_tuples l = steps (depth l.node.now) 3

abbrev pub decreases-count_fields : goal.decreases-count_fields
decreases-count_fields l = steps (depth l.node.now) 2 + (l.to - l.from)

abbrev pub decreases-count_enum : goal.decreases-count_enum
decreases-count_enum l = steps (depth l.node.now) 4

abbrev pub decreases-count_choices : goal.decreases-count_choices
decreases-count_choices l = steps (depth l.node.now) 3

abbrev pub decreases-count_payloads : goal.decreases-count_payloads
decreases-count_payloads l = steps (depth l.node.now) 2

abbrev pub invariant-count_choices-loop-variant : goal.invariant-count_choices-loop-variant
invariant-count_choices-loop-variant l =
    CountedTo (shapes_of (variant_shapes l.node)) l.variants (cow_rest l.entries) l.initial.input.now l.variant l.input.now l.nodes
