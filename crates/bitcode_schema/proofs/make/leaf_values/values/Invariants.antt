-- The values so far were made of the data that were taken.
use Rattle.std.specs.Prelude.{◌≡◌, ◌≤◌}
use Rattle.std.specs.VecDeque.{deque_len, deque_capacity}
use Rattle.bitcode_coder.specs.Coder.{TakesEach}
use Rattle.bitcode_schema.specs.Making.{MakesAs}
use Rattle.bitcode_schema.proofs.make.leaf_values.values.Given as goal

abbrev pub invariant-loop-made : goal.invariant-loop-made
invariant-loop-made g l = record {
  each : TakesEach (MakesAs g.T.Becomes.content) l._made l.values.items (g.D.HoldsData.held l.fn.column) (g.D.HoldsData.held l.column);
  size : deque_len l.values ≡ l._made;
  room : l.k ≤ deque_capacity l.values;
}
