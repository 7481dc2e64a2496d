-- With the lists of the lengths that are left, all lists are made.
use Rattle.std.specs.Prelude.{◌≡◌, ◌+◌, ◌≤◌, Some, length, sum}
use Rattle.std.specs.VecDeque.{deque_len, deque_capacity}
use Rattle.bitcode_coder.specs.Cutting.{cut}
use Rattle.bitcode_coder.specs.Length.{lengths_left}
use Rattle.bitcode_schema.proofs.CutLemmas.{MadeTo}
use Rattle.bitcode_schema.proofs.make.gather.lists.Given as goal

abbrev pub invariant-loop-made : goal.invariant-loop-made
invariant-loop-made g l = record {
  each : MadeTo (λ value one. g.W.Whole.view value ≡ Some one) (cut (lengths_left l.fn.lengths) l.fn.items.items) (cut (lengths_left l.lengths) l.items.items) l.values.items;
  enough : sum (lengths_left l.lengths) ≡ length l.items.items;
  left : length (lengths_left l.lengths) + l._made ≡ l.k;
  len : deque_len l.values ≡ l._made;
  room : l.k ≤ deque_capacity l.values;
}
