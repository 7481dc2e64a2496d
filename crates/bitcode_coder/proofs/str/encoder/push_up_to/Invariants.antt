use Rattle.std.proofs.Common.{◌≡◌, ◌+◌, ◌*◌, ◌≤◌, length, map, take, sum}
use Rattle.bitcode_memory.specs.Fast.{fast_items, fast_room}
use Rattle.bitcode_coder.specs.Cutting.{cut}
use Rattle.bitcode_coder.specs.Length.{written_lengths, length_room}
use Rattle.bitcode_coder.specs.PushedTexts.{PushesTexts}
use Rattle.bitcode_coder.proofs.str.encoder.push_up_to.Given as goal

abbrev pub invariant-loop-item : goal.invariant-loop-item
invariant-loop-item g l = record {
  count : l.count ≡ l.item-index;
  pushed : PushesTexts g.P.Shaped.data.lists (map (g.W.Part.of l.which) (take l.item-index l.items)) (cut (written_lengths l.initial.lengths) (fast_items l.initial.bytes)) (cut (written_lengths l.lengths) (fast_items l.bytes));
  whole : sum (written_lengths l.lengths) ≡ length (fast_items l.bytes);
  lengths : length_room l.initial.lengths ≡ length_room l.lengths + l.item-index;
  bytes : g.row.MOST * length l.items ≤ fast_room l.bytes + g.row.MOST * l.item-index;
}
