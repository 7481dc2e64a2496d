-- A row without the field ends the loop.
use Rattle.std.proofs.Common.{slice_get, length, inr, refl, sym}
use Rattle.std.proofs.lemmas.Bool.{ltb-true}
use Rattle.std.proofs.lemmas.Option.{slice_get_read}
use Rattle.bitcode_schema.proofs.LoopLemmas.{more_held, other_here, none_there}
use Rattle.bitcode_schema.proofs.write.gather.fields.Goals as goal

pub returns-in-None-clause-refused : goal.returns-in-None-clause-refused
returns-in-None-clause-refused c =
    let here = other_here (λ row. slice_get row c.args.i) (λ r. r.now) c.args.rows.now c.loop-row.row-index c.row-item.result c.loop-row-test.true c.row-item.is
    (none_there c.row-item.result.now c.args.i (sym c.in-None.ensures.lookup.0)) in
    rw c.err.ensures (inr (refl, here))

pub loop-row-preserved : goal.loop-row-preserved
loop-row-preserved c =
    rw c.in_ok-push-in-Some.ensures.items
    (more_held (λ row. slice_get row c.args.i) (λ r. r.now) c.args.rows.now c.loop-row.row-index c.row-item.result c.loop-row-test.true c.row-item.is (λ v. v.now)
    c.loop-row.parts.items _ c.loop-row.invariant
    (slice_get_read c.row-item.result.now (length c.row-item.result.now) c.args.i c.in-Some.field.now refl
    (ltb-true c.args.i (length c.row-item.result.now) (sym c.in-Some.ensures.lookup.0)) c.in-Some.ensures.lookup.1))
