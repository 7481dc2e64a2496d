-- A large length exceeds the limit.
use Rattle.bitcode_schema.proofs.LimitLemmas.{both_judged}
use Rattle.bitcode_schema.proofs.limits.exceed_short.Goals as goal

pub returns-then-any_greater_than : goal.returns-then-any_greater_than
returns-then-any_greater_than c = λ all. (rw c.if-any_greater_than.true at c.any_greater_than.ensures) all.0

pub returns : goal.returns
returns c = both_judged _ _ c.is_any_over.result (rw c.if-any_greater_than.false at c.any_greater_than.ensures) c.is_any_over.ensures
