-- A column is added, and linked from its place.
use Rattle.std.proofs.Common.{◌∙◌, ◌≤◌, All, length, map, arith, sym, subst, refl, inl, inr}
use Rattle.bitcode_serde.specs.Links.{AreFiled}
use Rattle.bitcode_serde.specs.declared.writer.state.PlacedWritten.{PlacedWritten}
use Rattle.bitcode_serde.proofs.FiledLemmas.{filed_same, filed_grown}
use Rattle.bitcode_serde.proofs.WritingLemmas.{within_last}
use Rattle.bitcode_serde.proofs.writer.state.Writer.add.Goals as goal

pub invariant_of-self-in-Break-branch-2 : goal.invariant_of-self-in-Break-branch-2
invariant_of-self-in-Break-branch-2 c =
    let old = c.args.self.now in
    let same = sym c.in_err-push.ensures.items in
    record {
      inside = subst (λ cs. All (λ x. x.place ≤ length c.make_room.new.self.below.items) cs) same
          (subst (λ z. All (λ x. x.place ≤ length z.items) old.columns.items) (sym c.make_room.ensures.below) old.inside);
      filed = subst (λ cs. AreFiled c.make_room.new.self.links.items (map (λ x. x.place) cs)) same
          (filed_same old.places.links.items c.make_room.new.self.links.items (map (λ c. c.place) old.columns.items) c.make_room.ensures.columns old.filed);
    }

pub invariant_of-self-2-clause-inside : goal.invariant_of-self-2-clause-inside
invariant_of-self-2-clause-inside c =
    let old = c.args.self.now in
    let new : PlacedWritten = record { place = c.args.place; column = c.args.column } in
    subst (λ z. All (λ x. x.place ≤ length z.items) c.push.new.self.items) (sym (c.set_column.ensures.below ∙ c.make_room.ensures.below))
    (within_last old.columns.items c.push.new.self.items new (length old.places.below.items) c.in_ok-push.ensures.items old.inside c.requires.place)

pub invariant_of-self-2-clause-filed : goal.invariant_of-self-2-clause-filed
invariant_of-self-2-clause-filed c =
    let old = c.args.self.now in
    let new : PlacedWritten = record { place = c.args.place; column = c.args.column } in
    let len = c.len-last.ensures in
    let more = c.in_ok-push.ensures.len in
    let size = old.columns.ok.0 in
    filed_grown (λ c. c.place) old.places.links.items c.set_column.new.self.links.items old.columns.items c.push.new.self.items new c.in_ok-push.ensures.items old.filed
    c.requires.fresh c.args.place _ refl (omega (arith, len, more, size)) c.set_column.ensures.there
    (λ m. elim (c.set_column.ensures.others m) [ inl e ↦ inl (e ∙ c.make_room.ensures.columns m) | inr e ↦ inr e ])
