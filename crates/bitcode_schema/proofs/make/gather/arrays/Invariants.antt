-- With the arrays that are left, all arrays are made.
use Rattle.std.specs.Prelude.{◌≡◌, ◌-◌, ◌≤◌, Some, length, replicate, sum}
use Rattle.std.specs.VecDeque.{deque_len, deque_capacity}
use Rattle.bitcode_coder.specs.Cutting.{cut}
use Rattle.bitcode_schema.specs.Views.{elements_of}
use Rattle.bitcode_schema.proofs.CutLemmas.{MadeTo}
use Rattle.bitcode_schema.proofs.make.gather.arrays.Given as goal

abbrev pub invariant-loop-made : goal.invariant-loop-made
invariant-loop-made l = record {
  each : MadeTo (λ value one. elements_of value ≡ Some one) (cut (replicate l.k l.size) l.fn.elements.items) (cut (replicate (l.k - l._made) l.size) l.elements.items) l.values.items;
  enough : sum (replicate (l.k - l._made) l.size) ≡ length l.elements.items;
  len : deque_len l.values ≡ l._made;
  room : l.k ≤ deque_capacity l.values;
}
