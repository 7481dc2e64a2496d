-- Another one of the links gets the child.
use Rattle.std.proofs.Common.{◌∙◌, ◌≤◌, ap, sym, subst, inl, inr, ◌++◌, ◌∷◌, [], arith}
use Rattle.bitcode_serde.specs.Links.{IsUpTo}
use Rattle.bitcode_serde.proofs.LinkLemmas.{column_set-same, children_set, children_set-others, children_set-same, last_set, last_set-grows}
use Rattle.bitcode_serde.proofs.OutcomeLemmas.{when_ok, when_err}
use Rattle.bitcode_serde.proofs.places.add_child.Goals as goal

pub returns-clause-there : goal.returns-clause-there
returns-clause-there c =
    when_ok c.add.result
    (λ e. children_set c.add.new.self c.make_room.new.links.items c.args.above c.index_mut.result.now c.args.child c.in_ok-make_room.ensures.room
    (e ∙ ap (λ l. l.children.items ++ c.args.child ∷ []) c.index_mut.ensures.value)
    ∙ ap (λ cs. cs ++ c.args.child ∷ []) (c.make_room.ensures.children c.args.above))
    c.add.ensures.added

pub returns-clause-others : goal.returns-clause-others
returns-clause-others c = λ a.
    elim (children_set-others c.add.new.self c.make_room.new.links.items c.args.above a) [ inl e ↦ inl (e ∙ c.make_room.ensures.children a) | inr e ↦ inr e ]

pub returns-clause-last : goal.returns-clause-last
returns-clause-last c =
    when_ok c.add.result (λ up. subst (λ n. IsUpTo n c.args.step) (sym (last_set c.add.new.self c.make_room.new.links.items c.args.above c.in_ok-make_room.ensures.room)) up)
    c.add.ensures.there

pub returns-clause-grows : goal.returns-clause-grows
returns-clause-grows c = λ a.
    let g = last_set-grows c.add.new.self c.make_room.new.links.items c.args.above c.index_mut.result.now
    (subst (λ l. l.last_field ≤ c.add.new.self.last_field) c.index_mut.ensures.value c.add.ensures.grows) a in
    let e = c.make_room.ensures.last a in
    omega (arith, g, e)

pub returns-clause-columns : goal.returns-clause-columns
returns-clause-columns c = λ n.
    column_set-same c.add.new.self c.make_room.new.links.items c.args.above c.index_mut.result.now (c.add.ensures.column ∙ ap (λ l. l.column) c.index_mut.ensures.value) n
    ∙ c.make_room.ensures.columns n

pub returns-clause-unchanged : goal.returns-clause-unchanged
returns-clause-unchanged c =
    when_err c.add.result
    (λ e a. children_set-same c.add.new.self c.make_room.new.links.items c.args.above c.index_mut.result.now (e ∙ ap (λ l. l.children.items) c.index_mut.ensures.value) a
    ∙ c.make_room.ensures.children a)
    c.add.ensures.unchanged
