-- By where the walks of two data part.
use Rattle.bitcode_untyped.proofs.NextColumnLemmas.{columns_decide}
use Rattle.bitcode_untyped.proofs.laws.columns_decide.Goals as goal

pub returns : goal.returns
returns c = columns_decide
