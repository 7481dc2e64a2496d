use Rattle.std.proofs.Common.{◌+◌, ◌-◌, ◌≤◌, length, map, take}
use Rattle.bitcode_memory.specs.Fast.{fast_items}
use Rattle.bitcode_coder.specs.Cutting.{cut}
use Rattle.bitcode_coder.specs.Length.{written_lengths, length_room}
use Rattle.bitcode_coder.specs.PushedTexts.{PushesTexts}
use Rattle.bitcode_coder.proofs.str.encoder.StrEncoder.encode_texts_in.Given as goal

abbrev pub invariant-loop-done : goal.invariant-loop-done
invariant-loop-done g l = record {
  within : l.done ≤ length l.items;
  pushed : PushesTexts g.P.Shaped.data.lists (map (g.W.Part.of l.which) (take l.done l.items)) (cut (written_lengths l.initial.self.lengths) (fast_items l.initial.self.bytes)) (cut (written_lengths l.self.lengths) (fast_items l.self.bytes));
  room : length_room l.initial.self.lengths ≤ length_room l.self.lengths + l.done;
}

abbrev pub decreases-loop-done : goal.decreases-loop-done
decreases-loop-done g l = length l.items - l.done
