-- The lengths of the lists so far were written.
use Rattle.std.proofs.Common.{◌≡◌, ◌+◌, ◌≤◌, length, map, take}
use Rattle.bitcode_coder.specs.Length.{written_lengths, length_room}
use Rattle.bitcode_schema.proofs.write.entries.write_lengths.Given as goal

abbrev pub invariant-loop-list : goal.invariant-loop-list
invariant-loop-list g l = record {
  written : written_lengths l.column ≡ map (λ x. length x) (map (λ x. x.now) (take l.list-index l.lists));
  room : length l.lists ≤ length_room l.column + l.list-index;
}
