use Rattle.std.proofs.Common.{map}
use Rattle.bitcode_shapes.specs.Datum.{unit}
use Rattle.bitcode_untyped.specs.ShapeTree.{unit_tree}
use Rattle.bitcode_serde_types.specs.Pairs.{with_unit}
use Rattle.bitcode_serde_types.proofs.PairLemmas.{PairsKept}
use Rattle.bitcode_serde_types.proofs.sets.read_keys.Given as goal

abbrev pub invariant-loop-i : goal.invariant-loop-i
invariant-loop-i g l =
    PairsKept g.K.HasShape.datum (λ u. unit) (g.K.HasShape.tree l.left) unit_tree l.found.keys l.found.values l.initial.reader l.initial.budget l._i
    (map with_unit l.keys.items) l.reader l.budget
