use Rattle.std.proofs.Common.{◌≡◌}
use Rattle.bitcode_coder.specs.ChunkWidth.{widenings_left}
use Rattle.bitcode_coder.specs.Length.{written_lengths, length_room}
use Rattle.bitcode_coder.proofs.length.encoder.LengthEncoder.encode_chunk.Given as goal

abbrev pub invariant-loop-max : goal.invariant-loop-max
invariant-loop-max g l = record {
  written : written_lengths l.self ≡ written_lengths l.initial.self;
  room : length_room l.self ≡ length_room l.initial.self;
}

abbrev pub decreases-loop-max : goal.decreases-loop-max
decreases-loop-max g l = widenings_left l.width
