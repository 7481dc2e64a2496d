use Rattle.std.proofs.Common.{length, map}
use Rattle.bitcode_shapes.specs.Datum.{unit}
use Rattle.bitcode_untyped.specs.ShapeTree.{unit_tree}
use Rattle.bitcode_serde_types.specs.Pairs.{with_unit}
use Rattle.bitcode_serde_types.proofs.MapWritten.{PairsWritten}
use Rattle.bitcode_serde_types.proofs.sets.write_keys.Given as goal

abbrev pub invariant-loop-key : goal.invariant-loop-key
invariant-loop-key g l =
    PairsWritten g.K.HasShape.datum (λ u. unit) (g.K.HasShape.tree l.left) unit_tree (map with_unit (g.L.Lends.rest l.fn.lent)) l.fn.writer l.initial.writer l.fn.place
    l.places.keys l.places.values (map with_unit (g.L.Lends.rest l.lent)) l.writer

abbrev pub decreases-loop-key : goal.decreases-loop-key
decreases-loop-key g l = length (g.L.Lends.rest l.lent)
