use Rattle.std.proofs.Common.{All, map, take}
use Rattle.bitcode_coder.proofs.part.told_parts.Given as goal

abbrev pub invariant-loop-item : goal.invariant-loop-item
invariant-loop-item g l = All g.T.Shaped.data.is_value (map (g.W.Part.of l.which) (take l.item-index l.items))
