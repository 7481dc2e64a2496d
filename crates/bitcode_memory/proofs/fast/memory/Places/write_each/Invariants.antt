use Rattle.std.proofs.Common.{◌≡◌, ◌+◌, ◌≤◌, ◌++◌, take, length}
use Rattle.bitcode_memory.proofs.fast.memory.Places.write_each.Given as goal

abbrev pub invariant-loop-i : goal.invariant-loop-i
invariant-loop-i g l = record {
  places : (l.self.at ≡ l.fn.self.at) × (l.self.capacity ≡ l.fn.self.capacity);
  counts : (l.index + l.i ≤ length l.self.items) × (length l.self.items ≤ l.self.capacity);
  items : take (l.index + l.i) l.self.items ≡ take l.index l.fn.self.items ++ take l.i l.src;
}
