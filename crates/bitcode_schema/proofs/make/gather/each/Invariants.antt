-- With others of the items that are left, all are made.
use Rattle.std.specs.Prelude.{◌≡◌, ◌+◌, ◌≤◌, length}
use Rattle.std.specs.VecDeque.{deque_len, deque_capacity}
use Rattle.bitcode_schema.proofs.CutLemmas.{MadeTo}
use Rattle.bitcode_schema.proofs.make.gather.each.Given as goal

abbrev pub invariant-loop-made : goal.invariant-loop-made
invariant-loop-made g l = record {
  each : MadeTo g.T.Turns.turned l.fn.items.items l.items.items l.others.items;
  left : length l.items.items + l._made ≡ l.k;
  len : deque_len l.others ≡ l._made;
  room : l.k ≤ deque_capacity l.others;
}
