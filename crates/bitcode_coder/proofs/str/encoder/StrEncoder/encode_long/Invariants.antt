use Rattle.std.proofs.Common.{◌≡◌, ◌+◌, ◌≤◌, map, take}
use Rattle.bitcode_memory.specs.Fast.{fast_items}
use Rattle.bitcode_coder.specs.Cutting.{cut}
use Rattle.bitcode_coder.specs.Length.{written_lengths, length_room}
use Rattle.bitcode_coder.specs.PushedTexts.{PushesTexts}
use Rattle.bitcode_coder.proofs.str.encoder.StrEncoder.encode_long.Given as goal

abbrev pub invariant-loop-item : goal.invariant-loop-item
invariant-loop-item g l = record {
  count : l.count ≡ l.item-index;
  pushed : PushesTexts g.P.Shaped.data.lists (map (g.W.Part.of l.which) (take l.item-index l.items)) (cut (written_lengths l.initial.self.lengths) (fast_items l.initial.self.bytes)) (cut (written_lengths l.self.lengths) (fast_items l.self.bytes));
  room : length_room l.initial.self.lengths ≤ length_room l.self.lengths + l.item-index;
}
