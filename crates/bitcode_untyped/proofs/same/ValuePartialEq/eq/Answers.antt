-- The answer tells whether the contents are the same.
use Rattle.bitcode_untyped.proofs.SameLemmas.{same_content}
use Rattle.bitcode_untyped.proofs.same.ValuePartialEq.eq.Goals as goal

pub returns-clause-same : goal.returns-clause-same
returns-clause-same c = same_content c.args.self.now c.args.other.now c.same.result c.same.ensures
