use Rattle.std.proofs.Common.{◌≤◌, length}
use Rattle.bitcode_serde_types.proofs.LentLemmas.{LentWritten}
use Rattle.bitcode_serde_types.proofs.lists.write_lent.Given as goal

abbrev pub invariant-loop-value : goal.invariant-loop-value
invariant-loop-value g l =
    (l.element ≤ length l.initial.writer.places.below.items)
    × LentWritten (g.T.HasShape.tree l.left) g.T.HasShape.datum (g.L.Lends.rest l.initial.lent) l.initial.writer l.element (g.L.Lends.rest l.lent) l.writer

abbrev pub decreases-loop-value : goal.decreases-loop-value
decreases-loop-value g l = length (g.L.Lends.rest l.lent)
