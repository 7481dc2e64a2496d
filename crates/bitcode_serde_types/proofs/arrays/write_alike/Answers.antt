-- One field after another.
use Rattle.std.proofs.lemmas.Result.{err_from_is_err_and}
use Rattle.bitcode_serde.proofs.EntryLemmas.{found_entry}
use Rattle.bitcode_serde_types.proofs.AlikeLemmas.{first_written, one_refused}
use Rattle.bitcode_serde_types.proofs.arrays.write_alike.Goals as goal

pub returns-in_err-write_fields : goal.returns-in_err-write_fields
returns-in_err-write_fields g c =
    let xs = c.args.items.now in
    let l = c.loop-i in
    let x = c.index-items-i.result in
    let y = err_from_is_err_and c.from_residual.result c.from_residual.ensures.1 in
    rw (y.1, y.2)
    (one_refused (g.T.HasShape.tree c.args.left) g.T.HasShape.datum xs c.args.writer.now c.args.place l.i x l.writer c.write_fields.new.writer
    c.in_err-write_fields.field-0.0 c.loop-i-test.true (found_entry xs l.i x c.loop-i-test.true c.index-items-i.is) l.invariant c.requires
    c.in_err-write_fields.ensures)

pub loop-i-preserved : goal.loop-i-preserved
loop-i-preserved g c =
    let xs = c.args.items.now in
    let l = c.loop-i in
    let x = c.index-items-i.result in
    first_written (g.T.HasShape.tree c.args.left) g.T.HasShape.datum xs c.args.writer.now c.args.place l.i x l.writer c.write_fields.new.writer
    c.loop-i-test.true (found_entry xs l.i x c.loop-i-test.true c.index-items-i.is) l.invariant c.requires c.in_ok-write_fields.ensures
