use Rattle.std.proofs.Common.{◌≤◌, take, All}
use Rattle.bitcode_coder.proofs.length.encoder.is_one_over.Given as goal

abbrev pub invariant-loop-t : goal.invariant-loop-t
invariant-loop-t g l = record {
  within : All (λ t. g.T.Len.size t ≤ l.max) (take l.t-index l.several);
}
