-- One datum is read, and it is all of the input.
use Rattle.std.proofs.Common.{refl}
use Rattle.std.proofs.lemmas.Bool.{false≢true}
use Rattle.std.proofs.lemmas.Result.{err_from_is_err_and}
use Rattle.bitcode_derive.specs.Whole.{in_columns, bytes_left}
use Rattle.bitcode_schema.specs.Forms.{shape_of}
use Rattle.bitcode_schema.proofs.CheckLemmas.{checked_datum}
use Rattle.bitcode_schema.proofs.check.check.Goals as goal

pub returns-in_err-written-clause-exact : goal.returns-in_err-written-clause-exact
returns-in_err-written-clause-exact c =
    let refused = err_from_is_err_and c.from_residual.result c.from_residual.ensures.1 in
    rw (refused.1, refused.2) (in_columns (rw c.root.ensures at c.in_err-written.ensures.exact))

pub returns-in_err-expect_eof-clause-exact : goal.returns-in_err-expect_eof-clause-exact
returns-in_err-expect_eof-clause-exact c =
    let refused = err_from_is_err_and c.from_residual-in_err-expect_eof.result c.from_residual-in_err-expect_eof.ensures.1 in
    let q = rw c.root.ensures at c.in_ok-written.ensures.read in
    rw (refused.1, refused.2)
    (bytes_left c.in_err-expect_eof.ensures.reason
    (record { read_data = q.found; rest = _; read = q.read; left = c.in_err-expect_eof.ensures.refused.0 refl }))

pub returns-clause-spelled : goal.returns-clause-spelled
returns-clause-spelled c =
    let q = rw c.root.ensures at c.in_ok-written.ensures.read in
    checked_datum (shape_of c.args.schema.now.root) c.args.bytes.now q.found _ _ c.args.strict q.read q.judged
    (λ more. false≢true (c.in_ok-expect_eof.ensures.refused.1 more))
