use Rattle.bitcode_serde_types.proofs.PairLemmas.{PairsKept}
use Rattle.bitcode_serde_types.proofs.maps.read_pairs.Given as goal

abbrev pub invariant-loop-i : goal.invariant-loop-i
invariant-loop-i g l =
    PairsKept g.K.HasShape.datum g.V.HasShape.datum (g.K.HasShape.tree l.left) (g.V.HasShape.tree l.left) l.found.keys l.found.values
    l.initial.reader l.initial.budget l._i l.pairs.items l.reader l.budget
