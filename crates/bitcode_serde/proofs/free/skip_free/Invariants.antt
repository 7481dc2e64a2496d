use Rattle.bitcode_untyped.specs.View.{tree_of_node}
use Rattle.bitcode_serde.specs.Free.{AreFreeBetween}
use Rattle.bitcode_serde.proofs.free.skip_free.Given as goal

abbrev pub invariant-loop-i : goal.invariant-loop-i
invariant-loop-i l = AreFreeBetween (tree_of_node l.left l.table) l.nodes l.from l.i
