-- What is read is what `read` reads, and the count that the decoder tells is added.
use Rattle.std.proofs.Common.{arith}
use Rattle.std.proofs.lemmas.Result.{err_from_is_err_and}
use Rattle.bitcode_enums.proofs.payloads.read_and_count.Goals as goal

pub returns-in_err-written-clause-refused : goal.returns-in_err-written-clause-refused
returns-in_err-written-clause-refused g c =
    let refused = err_from_is_err_and c.from_residual.result c.from_residual.ensures.1 in
    rw (refused.1, refused.2) c.in_err-written.ensures.refused

pub returns-clause-counted : goal.returns-clause-counted
returns-clause-counted g c = omega (arith, c.column_free.ensures.inside, c.in_ok-written.ensures.counted)
