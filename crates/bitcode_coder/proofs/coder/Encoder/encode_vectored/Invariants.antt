use Rattle.std.proofs.Common.{◌≡◌, ◌+◌, ◌≤◌, map, drop}
use Rattle.bitcode_coder.specs.Columns.{emptied}
use Rattle.bitcode_coder.proofs.EachLemmas.{JoinsFront}
use Rattle.bitcode_coder.proofs.coder.Encoder.encode_vectored.Given as goal

abbrev pub invariant-loop-value : goal.invariant-loop-value
invariant-loop-value g l = record {
  front : JoinsFront g.T.Shaped.data.lists g.T.Shaped.data.shape (map (λ value. value.now) l.values) (map (λ value. value.now) (drop l.value-index l.values)) (g.Self.HoldsColumns.columns l.initial.self) (g.Self.HoldsColumns.columns l.self);
  room : g.Self.HoldsColumns.room l.initial.self ≤ g.Self.HoldsColumns.room l.self + l.value-index;
  form : emptied (g.Self.HoldsColumns.columns l.self) ≡ emptied (g.Self.HoldsColumns.columns l.initial.self);
}
