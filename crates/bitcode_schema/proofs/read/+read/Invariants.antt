-- The parts of a node are less deep, and fewer fields are left. The payloads of the variants so far were read.
use Rattle.std.proofs.Common.{ℕ, ◌+◌, ◌-◌, ◌*◌, ◌^◌, max}
use Rattle.bitcode_memory.specs.Fast.{cow_rest}
use Rattle.bitcode_schema.specs.Depth.{depth}
use Rattle.bitcode_schema.specs.Forms.{shapes_of}
use Rattle.bitcode_schema.specs.Reading.{variant_shapes}
use Rattle.bitcode_schema.proofs.ChoiceLemmas.{ChoicesTo}
use Rattle.bitcode_schema.proofs.read.+read.Given as goal

-- a number of steps down a node, as the greater part of a measure
abbrev steps : ℕ → ℕ → ℕ
steps deep step = (8 * deep + step) * 2 ^ 64

abbrev pub decreases-read : goal.decreases-read
decreases-read l = steps (depth l.node.now) 5

abbrev pub decreases-read_lists : goal.decreases-read_lists
decreases-read_lists l = steps (depth l.element.now) 6

abbrev pub decreases-read_maps : goal.decreases-read_maps
decreases-read_maps l = steps (max (depth l.key.now) (depth l.value.now)) 6

abbrev pub decreases-read_arrays : goal.decreases-read_arrays
decreases-read_arrays l = steps (depth l.element.now) 6

abbrev pub decreases-read_tuples : goal.decreases-read_tuples
decreases-read_tuples l = steps (depth l.node.now) 3

abbrev pub decreases-read_fields : goal.decreases-read_fields
decreases-read_fields l = steps (depth l.node.now) 2 + (l.to - l.from)

abbrev pub decreases-read_enum : goal.decreases-read_enum
decreases-read_enum l = steps (depth l.node.now) 4

abbrev pub decreases-read_choices : goal.decreases-read_choices
decreases-read_choices l = steps (depth l.node.now) 3

abbrev pub decreases-read_payloads : goal.decreases-read_payloads
decreases-read_payloads l = steps (depth l.node.now) 2

abbrev pub invariant-read_choices-loop-variant : goal.invariant-read_choices-loop-variant
invariant-read_choices-loop-variant l =
    ChoicesTo (shapes_of (variant_shapes l.node)) l.count l.strict (cow_rest l.variants) l.initial.input.now l.initial.written l.variant l.written l.input.now
