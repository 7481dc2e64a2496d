-- One column more was checked, and stands behind the others.
use Rattle.bitcode_command.proofs.EntryLemmas.{spelled_next}
use Rattle.bitcode_command.proofs.PlacingLemmas.{stand_next}
use Rattle.bitcode_command.proofs.survey.Survey.note.Goals as goal

pub invariant_of-self-2-clause-stand : goal.invariant_of-self-2-clause-stand
invariant_of-self-2-clause-stand c =
    rw (c.add.ensures.added c.if-not-add.false) (stand_next 0 c.args.self.now.columns.items _ c.in-Some.end c.args.self.now.stand c.in-Some.ensures.0)

pub invariant_of-self-2-clause-spelled : goal.invariant_of-self-2-clause-spelled
invariant_of-self-2-clause-spelled c =
    rw (c.add.ensures.added c.if-not-add.false)
    (spelled_next c.args.self.now.whole.now c.args.self.now.columns.items _ c.in-Some.end c.in-Some.ensures.0 c.args.self.now.spelled c.in_ok-check.ensures)
