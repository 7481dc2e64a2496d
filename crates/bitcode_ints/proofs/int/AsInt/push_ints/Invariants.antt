use Rattle.std.proofs.Common.{◌≡◌, ◌+◌, take}
use Rattle.bitcode_memory.specs.Fast.{fast_items, fast_room}
use Rattle.bitcode_ints.specs.Int.{PushesInts}
use Rattle.bitcode_ints.proofs.int.AsInt.push_ints.Given as goal

abbrev pub invariant-loop-value : goal.invariant-loop-value
invariant-loop-value g l = record {
  pushed : PushesInts g.Self.Shaped.data.lists g.I.ColumnInt.number (take l.value-index l.values) (fast_items l.initial.ints) (fast_items l.ints);
  room : fast_room l.initial.ints ≡ fast_room l.ints + l.value-index;
}
