use Rattle.bitcode_columns.proofs.ReadingLemmas.{OnErr-always, IsEndOf-byte}
use Rattle.bitcode_int_columns.proofs.pack_ints.read.read_header.Goals as goal

pub returns-then-tag-halvings-clause-rest : goal.returns-then-tag-halvings-clause-rest
returns-then-tag-halvings-clause-rest g c = OnErr-always c.err.result (IsEndOf-byte _ _ _ c.in_ok-tag.ensures.taken)

pub returns-in_err-least-clause-rest : goal.returns-in_err-least-clause-rest
returns-in_err-least-clause-rest g c =
    OnErr-always c.from_residual-in_err-least.result (IsEndOf-byte c.in_ok-tag.tag _ _ (rw c.in_err-least.ensures.unchanged c.in_ok-tag.ensures.taken))
