use Rattle.std.proofs.Common.{All, take}
use Rattle.bitcode_shapes.proofs.lists.told_behind.Given as goal

abbrev pub invariant-loop-reference : goal.invariant-loop-reference
invariant-loop-reference g l = All (λ reference. g.T.Shaped.data.is_value reference.now) (take l.reference-index l.references)
