use Rattle.std.proofs.Common.{◌≡◌, ◌+◌, ◌*◌, ◌++◌, map, take}
use Rattle.std.specs.Prelude.{to_bits}
use Rattle.std.specs.Float.{binary64}
use Rattle.bitcode_memory.specs.Fast.{fast_items, fast_room}
use Rattle.bitcode_floats.proofs.float64.push_all.Given as goal

abbrev pub invariant-loop-block : goal.invariant-loop-block
invariant-loop-block l = record {
  pushed : fast_items l.bits ≡ fast_items l.initial.bits ++ map (λ x. to_bits binary64 x) (take (4 * l.block) l.floats);
  room : fast_room l.initial.bits ≡ fast_room l.bits + 4 * l.block;
}
