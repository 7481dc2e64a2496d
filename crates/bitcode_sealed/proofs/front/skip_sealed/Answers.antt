-- What is behind the head is its value, or has a fault.
use Rattle.std.proofs.Common.{rules}
use Rattle.std.proofs.lemmas.Result.{err_from_is_err_and}
use Rattle.bitcode_sealed.specs.Faults.{HasValueBehind, whole_in_value}
use Rattle.bitcode_sealed.proofs.FrontLemmas.{skipped_value}
use Rattle.bitcode_sealed.proofs.front.skip_sealed.Goals as goal

pub returns-in_err-rest-clause-refused : goal.returns-in_err-rest-clause-refused
returns-in_err-rest-clause-refused c =
    let p = err_from_is_err_and c.from_residual-in_err-rest.result c.from_residual-in_err-rest.ensures.1 in
    rw (p.1, p.2) (whole_in_value c.in_ok-head.head c.in_ok-head.ensures.found c.in_err-rest.ensures.refused)

pub returns-clause-found : goal.returns-clause-found
returns-clause-found c =
    let head = c.in_ok-head.head in
    let input = c.args.input.now.now in
    let value = c.in_ok-rest.field-0-0.now in
    let rest = c.in_ok-rest.rest.now in
    let has : HasValueBehind head input value rest = search rules in
    skipped_value head input value rest has
