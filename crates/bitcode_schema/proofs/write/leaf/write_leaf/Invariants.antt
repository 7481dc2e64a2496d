-- The values so far were written.
use Rattle.std.proofs.Common.{◌+◌, ◌≤◌, length, map, take}
use Rattle.bitcode_schema.proofs.LeafWritingLemmas.{Joined}
use Rattle.bitcode_schema.proofs.write.leaf.write_leaf.Given as goal

abbrev pub invariant-loop-value : goal.invariant-loop-value
invariant-loop-value g l = record {
  joined : Joined g.T.Shaped.data.shape g.T.Shaped.data.is_value g.T.Shaped.data.lists g.T.InCase.leaf g.T.InCase.holder g.met.T.InCase.laws
      g.T.Shaped.data.lawful.of_shape (map (λ v. v.now) (take l.value-index l.values)) (g.E.HoldsColumns.columns l.initial.column) (g.E.HoldsColumns.columns l.column);
  room : length l.values ≤ g.E.HoldsColumns.room l.column + l.value-index;
}
