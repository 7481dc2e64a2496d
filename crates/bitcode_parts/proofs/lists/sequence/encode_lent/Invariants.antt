use Rattle.std.proofs.Common.{◌≡◌, ◌+◌, ◌≤◌, length, All}
use Rattle.bitcode_coder.specs.Columns.{emptied}
use Rattle.bitcode_coder.proofs.EachLemmas.{JoinsFront}
use Rattle.bitcode_parts.proofs.lists.sequence.encode_lent.Given as goal

abbrev pub invariant-loop-first : goal.invariant-loop-first
invariant-loop-first g l = record {
  front : JoinsFront g.T.Shaped.data.lists g.T.Shaped.data.shape (g.L.Lends.rest l.initial.lent) (g.L.Lends.rest l.lent) (g.E.HoldsColumns.columns l.initial.elements) (g.E.HoldsColumns.columns l.elements);
  values : All g.T.Shaped.data.is_value (g.L.Lends.rest l.lent);
  left : length (g.L.Lends.rest l.lent) ≤ g.E.HoldsColumns.room l.elements;
  fewer : length (g.L.Lends.rest l.lent) ≤ length (g.L.Lends.rest l.initial.lent);
  room : g.E.HoldsColumns.room l.initial.elements + length (g.L.Lends.rest l.lent) ≤ g.E.HoldsColumns.room l.elements + length (g.L.Lends.rest l.initial.lent);
  form : emptied (g.E.HoldsColumns.columns l.elements) ≡ emptied (g.E.HoldsColumns.columns l.initial.elements);
}

abbrev pub decreases-loop-first : goal.decreases-loop-first
decreases-loop-first g l = length (g.L.Lends.rest l.lent)
