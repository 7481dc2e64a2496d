use Rattle.std.proofs.Common.{All, take}
use Rattle.bitcode_shapes.proofs.lists.told_each.Given as goal

abbrev pub invariant-loop-item : goal.invariant-loop-item
invariant-loop-item g l = All g.T.Shaped.data.is_value (take l.item-index l.items)
