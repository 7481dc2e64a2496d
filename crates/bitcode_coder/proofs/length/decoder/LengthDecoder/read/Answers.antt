-- A single short length is read, and its sum is known to be small.
use Rattle.std.proofs.Common.{None}
use Rattle.bitcode_coder.specs.Length.{short_left, large_left, lengths_left}
use Rattle.bitcode_coder.proofs.LengthPartLemmas.{reads_lengths}
use Rattle.bitcode_coder.proofs.length.decoder.LengthDecoder.read.Goals as goal

pub returns-in-Some-clause-read : goal.returns-in-Some-clause-read
unfolding short_left large_left lengths_left
returns-in-Some-clause-read c =
    rw (c.set_borrowed.ensures, c.set_borrowed-in-Some.ensures)
    (reads_lengths None _ _ _ _ _ c.in-Some.ensures.read c.in-Some.ensures.below tt)
