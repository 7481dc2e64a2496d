use Rattle.std.proofs.Common.{◌≡◌, ◌+◌, ◌++◌, map, take}
use Rattle.bitcode_memory.specs.Fast.{fast_items, fast_room}
use Rattle.bitcode_coder.proofs.length.encoder.push_short.Given as goal

abbrev pub invariant-loop-t : goal.invariant-loop-t
invariant-loop-t g l = record {
  written : fast_items l.small ≡ fast_items l.initial.small ++ map g.T.Len.size (take l.t-index l.chunk);
  room : fast_room l.initial.small ≡ fast_room l.small + l.t-index;
}
