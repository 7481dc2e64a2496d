use Rattle.std.proofs.Common.{◌≤◌, length}
use Rattle.bitcode_serde.proofs.JoiningLemmas.{JoinsSome}
use Rattle.bitcode_serde.proofs.write_column.join_each.Given as goal

abbrev pub invariant-loop-rest : goal.invariant-loop-rest
invariant-loop-rest g l = record {
  some : JoinsSome g.T.Case.kind l.initial.rest l.rest (g.E.HoldsColumns.columns l.initial.column) (g.E.HoldsColumns.columns l.column);
  left : length l.rest ≤ g.E.HoldsColumns.room l.column;
}

abbrev pub decreases-loop-rest : goal.decreases-loop-rest
decreases-loop-rest g l = length l.rest
