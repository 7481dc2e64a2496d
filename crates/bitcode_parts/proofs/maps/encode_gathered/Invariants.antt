use Rattle.std.proofs.Common.{◌≡◌, ◌≤◌, length, All}
use Rattle.std.specs.Map.{keys_of, values_of}
use Rattle.bitcode_coder.specs.Columns.{emptied}
use Rattle.bitcode_coder.proofs.EachLemmas.{JoinsFront}
use Rattle.bitcode_parts.proofs.maps.encode_gathered.Given as goal

abbrev pub invariant-loop-first : goal.invariant-loop-first
invariant-loop-first g l = record {
  keys : JoinsFront g.K.Shaped.data.lists g.K.Shaped.data.shape (keys_of (g.L.LendsPairs.rest l.initial.lent)) (keys_of (g.L.LendsPairs.rest l.lent)) (g.E.HoldsColumns.columns l.initial.keys) (g.E.HoldsColumns.columns l.keys);
  values : JoinsFront g.V.Shaped.data.lists g.V.Shaped.data.shape (values_of (g.L.LendsPairs.rest l.initial.lent)) (values_of (g.L.LendsPairs.rest l.lent)) (g.F.HoldsColumns.columns l.initial.values) (g.F.HoldsColumns.columns l.values);
  are_keys : All g.K.Shaped.data.is_value (keys_of (g.L.LendsPairs.rest l.lent));
  are_values : All g.V.Shaped.data.is_value (values_of (g.L.LendsPairs.rest l.lent));
  keys_room : length (g.L.LendsPairs.rest l.lent) ≤ g.E.HoldsColumns.room l.keys;
  values_room : length (g.L.LendsPairs.rest l.lent) ≤ g.F.HoldsColumns.room l.values;
  keys_form : emptied (g.E.HoldsColumns.columns l.keys) ≡ emptied (g.E.HoldsColumns.columns l.initial.keys);
  values_form : emptied (g.F.HoldsColumns.columns l.values) ≡ emptied (g.F.HoldsColumns.columns l.initial.values);
}

abbrev pub decreases-loop-first : goal.decreases-loop-first
decreases-loop-first g l = length (g.L.LendsPairs.rest l.lent)
