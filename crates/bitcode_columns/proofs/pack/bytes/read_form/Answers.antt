use Rattle.std.proofs.Common.{arith}
use Rattle.bitcode_columns.proofs.ByteReadingLemmas.{TellsForm-plain, TellsForm-shifted}
use Rattle.bitcode_columns.proofs.ReadingLemmas.{OnErr-always, IsEndOf-byte}
use Rattle.bitcode_columns.proofs.pack.bytes.read_form.Goals as goal
use Rattle.bitcode_columns.proofs.pack.bytes.read_form.Goals.{then-tag-eq1+in_ok-least, else-tag-eq1}

pub returns-then-tag-gt-HIGHEST_TAG-clause-rest : goal.returns-then-tag-gt-HIGHEST_TAG-clause-rest
returns-then-tag-gt-HIGHEST_TAG-clause-rest c = OnErr-always c.err.result (IsEndOf-byte _ _ _ c.in_ok-tag.ensures.taken)

pub returns-in_err-least-clause-rest : goal.returns-in_err-least-clause-rest
returns-in_err-least-clause-rest c =
    OnErr-always c.from_residual-in_err-least.result (IsEndOf-byte c.in_ok-tag.tag _ _ (rw c.in_err-least.ensures.unchanged c.in_ok-tag.ensures.taken))

pub returns-clause-read : goal.returns-clause-read
returns-clause-read c =
    let tag = c.in_ok-tag.tag in
    elim c.if-tag-eq1.branch [
      | then-tag-eq1+in_ok-least w ↦
          rw (w.input-is, w.least-is) (TellsForm-shifted tag w.in_ok-least.least _ _ _ c.at_level.result (omega arith) w.if-tag-eq1.true c.in_ok-tag.ensures.taken w.in_ok-least.ensures.taken c.at_level.ensures)
      | else-tag-eq1 w ↦
          rw (w.input-is, w.least-is) (TellsForm-plain tag _ _ c.at_level.result (omega arith) w.if-tag-eq1.false c.in_ok-tag.ensures.taken c.at_level.ensures)
    ]
