-- The values so far stood before those that are left.
use Rattle.std.specs.Prelude.{◌≡◌, ◌≤◌, ◌++◌, length, vec_len, vec_capacity}
use Rattle.bitcode_schema.proofs.make.gather.take.Given as goal

abbrev pub invariant-loop-taken : goal.invariant-loop-taken
invariant-loop-taken g l = record {
  taken : l.fn.items.items ≡ l.front.items ++ l.items.items;
  size : length l.front.items ≡ l._taken;
  len : vec_len l.front ≡ l._taken;
  room : l.count ≤ vec_capacity l.front;
}
