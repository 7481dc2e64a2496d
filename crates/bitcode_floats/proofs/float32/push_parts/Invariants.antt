use Rattle.std.proofs.Common.{◌≡◌, ◌+◌, ◌++◌, map, take}
use Rattle.bitcode_memory.specs.Fast.{fast_items, fast_room}
use Rattle.bitcode_floats.proofs.float32.push_parts.Given as goal

abbrev pub invariant-loop-item : goal.invariant-loop-item
invariant-loop-item g l = record {
  pushed : fast_items l.values ≡ fast_items l.initial.values ++ map (g.W.Part.of l.which) (take l.item-index l.items);
  room : fast_room l.initial.values ≡ fast_room l.values + l.item-index;
}
