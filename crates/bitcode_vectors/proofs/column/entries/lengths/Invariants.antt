use Rattle.std.proofs.Common.{◌≡◌, ◌+◌, length}
use Rattle.bitcode_coder.specs.Length.{lengths_left}
use Rattle.bitcode_vectors.proofs.column.entries.lengths.Given as goal

-- as many lengths are left as are asked for still
abbrev pub invariant-loop : goal.invariant-loop
invariant-loop l = length (lengths_left l.column) + l.counter ≡ l.count
