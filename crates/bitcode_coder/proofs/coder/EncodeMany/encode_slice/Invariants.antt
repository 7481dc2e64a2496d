use Rattle.std.proofs.Common.{◌≡◌, ◌+◌, ◌≤◌, length, All}
use Rattle.bitcode_coder.specs.Columns.{emptied}
use Rattle.bitcode_coder.proofs.EachLemmas.{JoinsFront}
use Rattle.bitcode_coder.proofs.coder.EncodeMany.encode_slice.Given as goal

abbrev pub invariant-loop-rest : goal.invariant-loop-rest
invariant-loop-rest g l = record {
  front : JoinsFront g.T.Shaped.data.lists g.T.Shaped.data.shape l.initial.rest l.rest (g.Self.HoldsColumns.columns l.initial.self) (g.Self.HoldsColumns.columns l.self);
  values : All g.T.Shaped.data.is_value l.rest;
  left : length l.rest ≤ g.Self.HoldsColumns.room l.self;
  fewer : length l.rest ≤ length l.initial.rest;
  room : g.Self.HoldsColumns.room l.initial.self + length l.rest ≤ g.Self.HoldsColumns.room l.self + length l.initial.rest;
  form : emptied (g.Self.HoldsColumns.columns l.self) ≡ emptied (g.Self.HoldsColumns.columns l.initial.self);
}

abbrev pub decreases-loop-rest : goal.decreases-loop-rest
decreases-loop-rest g l = length l.rest
