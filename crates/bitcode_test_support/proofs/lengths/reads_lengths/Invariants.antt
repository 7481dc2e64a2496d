use Rattle.std.proofs.Common.{◌≡◌, ◌+◌, length}
use Rattle.bitcode_coder.specs.Length.{lengths_left}
use Rattle.bitcode_test_support.proofs.lengths.reads_lengths.Given as goal

-- as many lengths are left as are expected still
abbrev pub invariant-loop-length : goal.invariant-loop-length
invariant-loop-length l = length (lengths_left l.decoder) + l.length-index ≡ length l.expected
