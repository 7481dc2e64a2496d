use Rattle.std.proofs.Common.{◌≡◌, ◌+◌, ◌≤◌, map, drop}
use Rattle.bitcode_coder.specs.Columns.{emptied}
use Rattle.bitcode_coder.proofs.EachLemmas.{JoinsFront}
use Rattle.bitcode_coder.proofs.coder.encode_parts.Given as goal

abbrev pub invariant-loop-item : goal.invariant-loop-item
invariant-loop-item g l = record {
  front : JoinsFront g.T.Shaped.data.lists g.T.Shaped.data.shape (map (g.W.Part.of l.which) l.items) (map (g.W.Part.of l.which) (drop l.item-index l.items)) (g.E.HoldsColumns.columns l.initial.encoder) (g.E.HoldsColumns.columns l.encoder);
  room : g.E.HoldsColumns.room l.initial.encoder ≤ g.E.HoldsColumns.room l.encoder + l.item-index;
  form : emptied (g.E.HoldsColumns.columns l.encoder) ≡ emptied (g.E.HoldsColumns.columns l.initial.encoder);
}
