-- The nodes so far refer soundly.
use Rattle.std.proofs.Common.{◌≡◌, true, take}
use Rattle.std.specs.List.{list_all}
use Rattle.bitcode_untyped.specs.References.{refers_soundly}
use Rattle.bitcode_untyped.proofs.shape.+refers.Given as goal

abbrev pub invariant-all_refer_soundly-loop-node : goal.invariant-all_refer_soundly-loop-node
invariant-all_refer_soundly-loop-node l = list_all (λ n. refers_soundly l.count n l.below) (take l.node-index l.nodes) ≡ true
