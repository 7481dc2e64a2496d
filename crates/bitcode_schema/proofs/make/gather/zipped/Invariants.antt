-- The pairs so far were made of the first items.
use Rattle.std.specs.Prelude.{◌≡◌, ◌+◌, ◌≤◌, ◌++◌, map, length}
use Rattle.std.specs.VecDeque.{deque_len, deque_capacity}
use Rattle.bitcode_schema.proofs.make.gather.zipped.Given as goal

abbrev pub invariant-loop-made : goal.invariant-loop-made
invariant-loop-made g l = record {
  firsts : l.fn.first.items ≡ map (λ p. p.0) l.pairs.items ++ l.first.items;
  seconds : l.fn.second.items ≡ map (λ p. p.1) l.pairs.items ++ l.second.items;
  left : length l.first.items + l._made ≡ l.k;
  same : length l.first.items ≡ length l.second.items;
  len : deque_len l.pairs ≡ l._made;
  room : l.k ≤ deque_capacity l.pairs;
}
