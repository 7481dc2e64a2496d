use Rattle.std.proofs.Common.{◌≡◌, ◌+◌, ◌≤◌, length, All}
use Rattle.bitcode_coder.specs.Length.{lengths_left}
use Rattle.bitcode_coder.proofs.length.decoder.LengthDecoder.any_length_over.Given as goal

abbrev pub invariant-loop : goal.invariant-loop
invariant-loop l = record {
  left : length (lengths_left l.lengths) + l.counter ≡ length (lengths_left l.self);
  kept : All (λ n. n ≤ l.limit) (lengths_left l.lengths) → All (λ n. n ≤ l.limit) (lengths_left l.self);
  broken : All (λ n. n ≤ l.limit) (lengths_left l.self) → All (λ n. n ≤ l.limit) (lengths_left l.lengths);
}
