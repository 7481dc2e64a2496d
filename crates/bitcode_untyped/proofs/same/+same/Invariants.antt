-- The values so far are the same.
use Rattle.std.proofs.Common.{◌≡◌, true, take}
use Rattle.std.specs.Cmp.Lexicographic.{pointwise}
use Rattle.bitcode_untyped.specs.Same.{same_values, same_pairs}
use Rattle.bitcode_untyped.proofs.same.+same.Given as goal

abbrev pub invariant-all_pairs_same-loop-i : goal.invariant-all_pairs_same-loop-i
invariant-all_pairs_same-loop-i l = pointwise same_pairs (take l.i l.pairs) (take l.i l.others) ≡ true

abbrev pub invariant-all_same-loop-i : goal.invariant-all_same-loop-i
invariant-all_same-loop-i l = pointwise same_values (take l.i l.values) (take l.i l.others) ≡ true
