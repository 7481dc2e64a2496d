-- The nodes so far have few enough nodes in one another.
use Rattle.std.proofs.Common.{◌≡◌, true, take}
use Rattle.std.specs.Prelude.{nat_le}
use Rattle.std.specs.List.{list_all}
use Rattle.bitcode_schema.specs.Depth.{depth}
use Rattle.bitcode_schema.proofs.schema.+within.Given as goal

abbrev pub invariant-all_within-loop-node : goal.invariant-all_within-loop-node
invariant-all_within-loop-node l = list_all (λ n. nat_le (depth n) l.left) (take l.node-index l.nodes) ≡ true

abbrev pub invariant-parts_within-loop-part : goal.invariant-parts_within-loop-part
invariant-parts_within-loop-part l = list_all (λ p. nat_le (depth p.1) l.left) (take l.part-index l.parts) ≡ true
