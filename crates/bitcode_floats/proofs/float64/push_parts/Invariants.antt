use Rattle.std.proofs.Common.{◌≡◌, ◌+◌, ◌++◌, map, take}
use Rattle.std.specs.Prelude.{to_bits}
use Rattle.std.specs.Float.{binary64}
use Rattle.bitcode_memory.specs.Fast.{fast_items, fast_room}
use Rattle.bitcode_floats.proofs.float64.push_parts.Given as goal

abbrev pub invariant-loop-item : goal.invariant-loop-item
invariant-loop-item g l = record {
  pushed : fast_items l.bits ≡ fast_items l.initial.bits ++ map (λ item. to_bits binary64 (g.W.Part.of l.which item)) (take l.item-index l.items);
  room : fast_room l.initial.bits ≡ fast_room l.bits + l.item-index;
}
