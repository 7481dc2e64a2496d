-- The lengths so far are within the limit.
use Rattle.std.proofs.Common.{◌≡◌, ◌+◌, ◌≤◌, length, All}
use Rattle.bitcode_coder.specs.Length.{lengths_left}
use Rattle.bitcode_schema.proofs.limits.is_any_over.Given as goal

abbrev pub invariant-loop : goal.invariant-loop
invariant-loop l = record {
  left : length (lengths_left l.lengths) + l.counter ≡ l.k;
  kept : All (λ n. n ≤ l.limit) (lengths_left l.lengths) → All (λ n. n ≤ l.limit) (lengths_left l.fn.lengths);
  broken : All (λ n. n ≤ l.limit) (lengths_left l.fn.lengths) → All (λ n. n ≤ l.limit) (lengths_left l.lengths);
}
