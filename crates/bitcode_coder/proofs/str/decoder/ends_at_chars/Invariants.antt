use Rattle.std.proofs.Common.{◌≡◌, ◌+◌, length, sum, All}
use Rattle.std.specs.Str.{IsCharBoundary}
use Rattle.bitcode_coder.specs.JoinedTexts.{ends_from}
use Rattle.bitcode_coder.specs.Length.{lengths_left}
use Rattle.bitcode_coder.proofs.str.decoder.ends_at_chars.Given as goal

abbrev pub invariant-loop : goal.invariant-loop
invariant-loop l = record {
  summed : l.place + sum (lengths_left l.rest) ≡ length l.whole;
  left : length (lengths_left l.rest) + l.counter ≡ length (lengths_left l.lengths);
  kept : All (IsCharBoundary l.whole) (ends_from l.place (lengths_left l.rest)) → All (IsCharBoundary l.whole) (ends_from 0 (lengths_left l.lengths));
  broken : All (IsCharBoundary l.whole) (ends_from 0 (lengths_left l.lengths)) → All (IsCharBoundary l.whole) (ends_from l.place (lengths_left l.rest));
}
