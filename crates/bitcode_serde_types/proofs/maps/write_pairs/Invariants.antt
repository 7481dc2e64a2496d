use Rattle.std.proofs.Common.{length}
use Rattle.bitcode_serde_types.proofs.MapWritten.{PairsWritten}
use Rattle.bitcode_serde_types.proofs.maps.write_pairs.Given as goal

abbrev pub invariant-loop-key : goal.invariant-loop-key
invariant-loop-key g l =
    PairsWritten g.K.HasShape.datum g.V.HasShape.datum (g.K.HasShape.tree l.left) (g.V.HasShape.tree l.left) (g.L.LendsPairs.rest l.fn.lent) l.fn.writer
    l.initial.writer l.fn.place l.places.keys l.places.values (g.L.LendsPairs.rest l.lent) l.writer

abbrev pub decreases-loop-key : goal.decreases-loop-key
decreases-loop-key g l = length (g.L.LendsPairs.rest l.lent)
