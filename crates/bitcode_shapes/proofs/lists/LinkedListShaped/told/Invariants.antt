use Rattle.std.proofs.Common.{All}
use Rattle.bitcode_shapes.proofs.lists.LinkedListShaped.told.Given as goal

-- the list is one of values if what is left is
abbrev pub invariant-loop-element : goal.invariant-loop-element
invariant-loop-element g l = All g.T.Shaped.data.is_value l.element-iterator → All g.T.Shaped.data.is_value l.fn.self
