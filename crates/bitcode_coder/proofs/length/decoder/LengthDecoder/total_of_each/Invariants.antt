use Rattle.std.proofs.Common.{◌≡◌, ◌+◌, ◌-◌, ◌*◌, ◌^◌, ◌≤◌, length, sum}
use Rattle.bitcode_coder.specs.Length.{lengths_left}
use Rattle.bitcode_coder.proofs.length.decoder.LengthDecoder.total_of_each.Given as goal

abbrev pub invariant-loop : goal.invariant-loop
invariant-loop l = record {
  summed : l.total + sum (lengths_left l.lengths) ≡ sum (lengths_left l.self);
  left : length (lengths_left l.lengths) + l.counter ≡ length (lengths_left l.self);
  bounded : l.total ≤ l.counter * (2 ^ 64 - 1);
}
