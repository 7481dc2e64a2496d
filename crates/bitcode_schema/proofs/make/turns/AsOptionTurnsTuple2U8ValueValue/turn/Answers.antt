-- By whether the variant is none.
use Rattle.std.proofs.Common.{Some, None, sym, ap, ◌∙◌, arith}
use Rattle.bitcode_schema.specs.Making.{optional}
use Rattle.bitcode_schema.proofs.HeldLemmas.{option_made, optional_some}
use Rattle.bitcode_schema.proofs.make.turns.AsOptionTurnsTuple2U8ValueValue.turn.Goals as goal

pub returns-then-item-eq0 : goal.returns-then-item-eq0
returns-then-item-eq0 c = option_made None ∙ ap (λ n. Some (optional n c.args.item.1)) (sym c.if-item-eq0.true)

pub returns : goal.returns
returns c =
    option_made (Some c.in_ok-held.held)
    ∙ ap Some (ap Some c.in_ok-held.ensures.ok ∙ sym (optional_some c.args.item.0 c.args.item.1 (omega (arith, c.if-item-eq0.false))))
