-- A whole value is skipped, or the bytes before the next head, unless the program waits for more.
use Rattle.std.proofs.Common.{◌≡◌, arith}
use Rattle.bitcode_sealed.specs.Front.{to_a_head}
use Rattle.bitcode_sealed.proofs.FrontLemmas.{past_value, some_of_fault}
use Rattle.bitcode_sealed.proofs.next.bytes_to_skip.Goals as goal

pub returns-in-Ok : goal.returns-in-Ok
returns-in-Ok c = past_value c.args.expected.now c.in-Ok.field-0 c.args.input.now c.skip_sealed.new.input.now c.in-Ok.ensures.found

pub next_head-requires : goal.next_head-requires
next_head-requires c =
    some_of_fault c.args.input.now c.in-Err.fault c.in-Err.ensures.refused
    (λ empty. let all : c.in-CutOff.wanted ≡ 20 = cc in absurd (omega arith))

pub returns-else-wanted-saturating_add : goal.returns-else-wanted-saturating_add
returns-else-wanted-saturating_add c = record {
  forward = c.next_head.ensures.forward;
  inside = c.next_head.ensures.inside;
  value_or_gap =
      to_a_head c.in-Err.fault c.in-Err.ensures.refused (λ present wanted is short. let same : c.in-CutOff.wanted ≡ wanted = cc in absurd (omega arith)) c.next_head.ensures;
}

pub returns-in_default : goal.returns-in_default
returns-in_default c = record {
  forward = c.next_head-in_default.ensures.forward;
  inside = c.next_head-in_default.ensures.inside;
  value_or_gap =
      to_a_head c.in-Err.fault c.in-Err.ensures.refused (λ present wanted is _. c.in_default.not-CutOff present wanted is) c.next_head-in_default.ensures;
}
