-- The value's bytes are split off, and then decoded.
use Rattle.std.proofs.Common.{rules}
use Rattle.std.proofs.lemmas.Result.{err_from_is_err_and}
use Rattle.bitcode_sealed.specs.Faults.{IsSealedFront}
use Rattle.bitcode_sealed.specs.Opening.{front_not_sealed, front_not_decoded}
use Rattle.bitcode_sealed.proofs.values.open_front.Goals as goal

pub returns-in_err-value-clause-refused : goal.returns-in_err-value-clause-refused
returns-in_err-value-clause-refused g c =
    let p = err_from_is_err_and c.from_residual.result c.from_residual.ensures.1 in
    rw (p.1, p.2) (front_not_sealed c.in_err-value.ensures.refused)

pub returns-in_err-t-clause-refused : goal.returns-in_err-t-clause-refused
returns-in_err-t-clause-refused g c =
    let p = err_from_is_err_and c.from_residual-in_err-t.result c.from_residual-in_err-t.ensures.1 in
    let value = c.in_ok-value.value.now in
    let rest = c.in_ok-value.rest.now in
    let front : IsSealedFront c.args.expected.now c.args.input.now.now value rest = search rules in
    rw (p.1, p.2) (front_not_decoded value rest front c.in_err-t.ensures.refused)
