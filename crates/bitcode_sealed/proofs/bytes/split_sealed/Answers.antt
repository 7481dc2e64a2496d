-- The first of the faults.
use Rattle.std.proofs.lemmas.Result.{err_from_is_err_and, IfOk-weaker, IfErr-weaker}
use Rattle.bitcode_sealed.specs.Faults.{HasValueBehind, IsValueFault, IsSealedFront, IsFault, in_label, in_value}
use Rattle.bitcode_sealed.proofs.ValueLemmas.{sealed_front}
use Rattle.bitcode_sealed.proofs.bytes.split_sealed.Goals as goal

pub returns-in_err-admit-clause-refused : goal.returns-in_err-admit-clause-refused
returns-in_err-admit-clause-refused c =
    let p = err_from_is_err_and c.from_residual-in_err-admit.result c.from_residual-in_err-admit.ensures.1 in
    rw (p.1, p.2) (in_label c.in_ok-head.head c.in_ok-head.ensures.found c.in_err-admit.ensures.refused)

pub returns-clause-found : goal.returns-clause-found
returns-clause-found c =
    let head = c.in_ok-head.head in
    let expected = c.args.expected.now in
    let input = c.args.input.now in
    IfOk-weaker c.split_value.result (λ parts. HasValueBehind head input parts.0.now parts.1.now) (λ parts. IsSealedFront expected input parts.0.now parts.1.now)
    (λ parts has. sealed_front expected head input parts.0.now parts.1.now c.in_ok-admit.ensures.admitted has) c.split_value.ensures.found

pub returns-clause-refused : goal.returns-clause-refused
returns-clause-refused c =
    let head = c.in_ok-head.head in
    let expected = c.args.expected.now in
    let input = c.args.input.now in
    IfErr-weaker c.split_value.result (λ e. IsValueFault head input e) (λ e. IsFault expected input e)
    (λ e fault. in_value head c.in_ok-head.ensures.found c.in_ok-admit.ensures.admitted fault) c.split_value.ensures.refused
