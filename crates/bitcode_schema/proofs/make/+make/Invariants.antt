-- The parts of a node are less deep, and fewer fields are left. The payloads of the variants so far were made.
use Rattle.std.proofs.Common.{ℕ, ◌+◌, ◌-◌, ◌*◌, ◌^◌, ◌≡◌, ◌≤◌, max, map}
use Rattle.std.specs.Prelude.{vec_len, vec_capacity}
use Rattle.bitcode_memory.specs.Fast.{cow_rest}
use Rattle.bitcode_schema.specs.Depth.{depth}
use Rattle.bitcode_schema.specs.Forms.{shapes_of}
use Rattle.bitcode_schema.specs.Making.{variant_contents}
use Rattle.bitcode_schema.specs.Reading.{variant_shapes}
use Rattle.bitcode_schema.proofs.PayloadMakingLemmas.{PayloadsTo}
use Rattle.bitcode_schema.proofs.make.+make.Given as goal

-- a number of steps down a node, as the greater part of a measure
abbrev steps : ℕ → ℕ → ℕ
steps deep step = (8 * deep + step) * 2 ^ 64

abbrev pub decreases-make : goal.decreases-make
decreases-make l = steps (depth l.node.now) 5

abbrev pub decreases-make_lists : goal.decreases-make_lists
decreases-make_lists l = steps (depth l.element.now) 6

abbrev pub decreases-make_maps : goal.decreases-make_maps
decreases-make_maps l = steps (max (depth l.key.now) (depth l.value.now)) 6

abbrev pub decreases-make_arrays : goal.decreases-make_arrays
decreases-make_arrays l = steps (depth l.element.now) 6

abbrev pub decreases-make_tuples : goal.decreases-make_tuples
decreases-make_tuples l = steps (depth l.node.now) 3

abbrev pub decreases-make_fields : goal.decreases-make_fields
decreases-make_fields l = steps (depth l.node.now) 2 + (l.to - l.from)

abbrev pub decreases-make_enum : goal.decreases-make_enum
decreases-make_enum l = steps (depth l.node.now) 4

abbrev pub decreases-make_choices : goal.decreases-make_choices
decreases-make_choices l = steps (depth l.node.now) 3

abbrev pub decreases-make_payloads : goal.decreases-make_payloads
decreases-make_payloads l = steps (depth l.node.now) 2

abbrev pub invariant-make_choices-loop-variant : goal.invariant-make_choices-loop-variant
invariant-make_choices-loop-variant l = record {
  made : PayloadsTo (shapes_of (variant_shapes l.node)) (variant_contents l.node) l.count (cow_rest l.variants) l.initial.input.now l.variant l.input.now (map (λ p. p.items) l.payloads.items);
  len : vec_len l.payloads ≡ l.variant;
  room : l.count ≤ vec_capacity l.payloads;
}
