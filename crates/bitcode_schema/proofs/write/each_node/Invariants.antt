-- The nodes so far.
use Rattle.std.proofs.Common.{◌≡◌, map, take}
use Rattle.bitcode_schema.proofs.write.each_node.Given as goal

abbrev pub invariant-loop-node : goal.invariant-loop-node
invariant-loop-node l = map (λ n. n.now) l.parts.items ≡ take l.node-index l.nodes
