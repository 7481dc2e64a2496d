use Rattle.std.proofs.Common.{◌≡◌, ◌+◌, ◌++◌, take}
use Rattle.bitcode_memory.specs.Fast.{fast_items, fast_room}
use Rattle.bitcode_floats.proofs.float64.push_bits.Given as goal

abbrev pub invariant-loop-entry : goal.invariant-loop-entry
invariant-loop-entry l = record {
  pushed : fast_items l.bits ≡ fast_items l.initial.bits ++ take l.entry-index l.entry-items;
  room : fast_room l.initial.bits ≡ fast_room l.bits + l.entry-index;
}
