-- What is done with is a front of what has come, and each message makes it longer.
use Rattle.std.proofs.Common.{◌≤◌, ◌-◌, vec_len}
use Rattle.frames.proofs.stream.Stream.print.Given as goal

abbrev pub invariant-loop-done : goal.invariant-loop-done
invariant-loop-done g l = l.done ≤ vec_len l.fn.self.bytes

abbrev pub decreases-loop-done : goal.decreases-loop-done
decreases-loop-done g l = vec_len l.fn.self.bytes - l.done
