use Rattle.std.proofs.Common.{All}
use Rattle.bitcode_shapes.proofs.sets.HashSetShaped.told.Given as goal

-- the keys are values if what is left is
abbrev pub invariant-loop-key : goal.invariant-loop-key
invariant-loop-key g l = All g.T.Shaped.data.is_value l.key-iterator → All g.T.Shaped.data.is_value l.fn.self.keys
