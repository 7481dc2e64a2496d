use Rattle.std.proofs.Common.{◌≡◌, ◌+◌, map, take}
use Rattle.bitcode_memory.specs.Fast.{fast_items, fast_room}
use Rattle.bitcode_ints.specs.Int.{PushesInts}
use Rattle.bitcode_ints.proofs.int.push_parts.Given as goal

abbrev pub invariant-loop-item : goal.invariant-loop-item
invariant-loop-item g l = record {
  pushed : PushesInts g.P.Shaped.data.lists g.I.ColumnInt.number (map (g.W.Part.of l.which) (take l.item-index l.items)) (fast_items l.initial.ints) (fast_items l.ints);
  room : fast_room l.initial.ints ≡ fast_room l.ints + l.item-index;
}
