-- The enums in the nodes so far have few variants.
use Rattle.std.proofs.Common.{◌≡◌, true, take}
use Rattle.std.specs.List.{list_all}
use Rattle.bitcode_schema.specs.Depth.{has_few_variants}
use Rattle.bitcode_schema.proofs.schema.+few.Given as goal

abbrev pub invariant-all_have_few-loop-node : goal.invariant-all_have_few-loop-node
invariant-all_have_few-loop-node l = list_all has_few_variants (take l.node-index l.nodes) ≡ true

abbrev pub invariant-parts_have_few-loop-part : goal.invariant-parts_have_few-loop-part
invariant-parts_have_few-loop-part l = list_all (λ p. has_few_variants p.1) (take l.part-index l.parts) ≡ true
