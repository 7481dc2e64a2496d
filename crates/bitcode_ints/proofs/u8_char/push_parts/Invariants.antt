use Rattle.std.proofs.Common.{◌≡◌, ◌+◌, ◌++◌, map, take}
use Rattle.bitcode_memory.specs.Fast.{fast_items, fast_room}
use Rattle.bitcode_ints.proofs.u8_char.push_parts.Given as goal

abbrev pub invariant-loop-item : goal.invariant-loop-item
invariant-loop-item g l = record {
  pushed : fast_items l.bytes ≡ fast_items l.initial.bytes ++ map (λ item. (g.W.Part.of l.which item).0) (take l.item-index l.items);
  room : fast_room l.initial.bytes ≡ fast_room l.bytes + l.item-index;
}
