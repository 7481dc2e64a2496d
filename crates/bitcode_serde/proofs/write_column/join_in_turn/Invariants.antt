use Rattle.std.proofs.Common.{◌≤◌, ◌+◌, length, drop}
use Rattle.bitcode_serde.proofs.JoiningLemmas.{JoinsSome}
use Rattle.bitcode_serde.proofs.write_column.join_in_turn.Given as goal

abbrev pub invariant-loop-value : goal.invariant-loop-value
invariant-loop-value g l = record {
  some : JoinsSome g.T.Case.kind l.values (drop l.value-index l.values) (g.E.HoldsColumns.columns l.initial.column) (g.E.HoldsColumns.columns l.column);
  left : length l.values ≤ g.E.HoldsColumns.room l.column + l.value-index;
}
