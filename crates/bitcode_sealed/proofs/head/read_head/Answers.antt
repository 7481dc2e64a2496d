-- A head that is not written as it is read is none.
use Rattle.std.proofs.Common.{◌≤◌, length, take, refl, sym, ◌∙◌, arith, rules}
use Rattle.bitcode_sealed.specs.Layout.{BeginsAsSealed}
use Rattle.bitcode_sealed.specs.Faults.{head_damaged}
use Rattle.bitcode_sealed.proofs.HeadLemmas.{SaysAs, says_the_head, begins_with, same_from_ne, differ_from_ne}
use Rattle.bitcode_sealed.proofs.head.read_head.Goals as goal

pub returns-then-ne-clause-refused : goal.returns-then-ne-clause-refused
returns-then-ne-clause-refused c =
    let input = c.args.input.now in
    let said = c.said_by-head.result in
    let says : SaysAs said input =
    record { version = c.said_by-head.ensures.version; kind = c.said_by-head.ensures.kind; size = c.said_by-head.ensures.size } in
    let begins : BeginsAsSealed input = search rules in
    let long : 20 ≤ length input = omega arith in
    head_damaged refl begins long (λ head has.
    differ_from_ne c.ne.result (take 20 input) c.as_slice.result.now c.ne.ensures c.if-ne.true
    (says_the_head said head input says has ∙ sym (c.as_slice.ensures ∙ c.bytes.ensures)))

pub returns-clause-found : goal.returns-clause-found
returns-clause-found c =
    let input = c.args.input.now in
    let says : SaysAs c.said_by-head.result input =
    record { version = c.said_by-head.ensures.version; kind = c.said_by-head.ensures.kind; size = c.said_by-head.ensures.size } in
    begins_with input (λ i. omega (arith, c.type_inv.input i)) c.said_by-head.result says
    (same_from_ne c.ne.result (take 20 input) c.as_slice.result.now c.ne.ensures c.if-ne.false ∙ c.as_slice.ensures ∙ c.bytes.ensures)
