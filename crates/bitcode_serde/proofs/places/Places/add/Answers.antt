-- A place is added, as a child of the one above it.
use Rattle.std.proofs.Common.{◌+◌, ◌++◌, ◌∷◌, [], ap, ◌∙◌}
use Rattle.bitcode_serde.specs.Links.{children}
use Rattle.bitcode_serde.specs.declared.places.Below.{Below}
use Rattle.bitcode_serde.proofs.PlaceLemmas.{below_grown, new_place, apart_grown, linked_grown, others_grown, length_more}
use Rattle.bitcode_serde.proofs.places.Places.add.Goals as goal

pub invariant_of-self-2-clause-below_others : goal.invariant_of-self-2-clause-below_others
invariant_of-self-2-clause-below_others c =
    let old = c.args.self.now in
    let new : Below = record { above = c.args.above; step = c.args.step } in
    let is = c.push_reserved.ensures.items ∙ ap (λ bs. bs ++ new ∷ []) c.reserve.ensures.items in
    below_grown old.below.items c.push_reserved.new.self.items new is old.below_others c.requires.above

pub invariant_of-self-2-clause-apart : goal.invariant_of-self-2-clause-apart
invariant_of-self-2-clause-apart c =
    let old = c.args.self.now in
    let new : Below = record { above = c.args.above; step = c.args.step } in
    let is = c.push_reserved.ensures.items ∙ ap (λ bs. bs ++ new ∷ []) c.reserve.ensures.items in
    apart_grown old.below.items c.push_reserved.new.self.items new is old.below_others c.requires.above c.requires.fresh old.apart

pub invariant_of-self-2-clause-linked : goal.invariant_of-self-2-clause-linked
invariant_of-self-2-clause-linked c =
    let old = c.args.self.now in
    let new : Below = record { above = c.args.above; step = c.args.step } in
    let is = c.push_reserved.ensures.items ∙ ap (λ bs. bs ++ new ∷ []) c.reserve.ensures.items in
    let there = c.in_ok-add_child.ensures.there ∙ ap (λ n. children old.links.items c.args.above ++ n ∷ []) c.len-child.ensures in
    linked_grown old.below.items c.push_reserved.new.self.items new is old.below_others c.requires.above old.links.items c.add_child.new.links.items there
    c.add_child.ensures.others old.linked

pub invariant_of-self-2-clause-no_others : goal.invariant_of-self-2-clause-no_others
invariant_of-self-2-clause-no_others c =
    let old = c.args.self.now in
    let new : Below = record { above = c.args.above; step = c.args.step } in
    let is = c.push_reserved.ensures.items ∙ ap (λ bs. bs ++ new ∷ []) c.reserve.ensures.items in
    let there = c.in_ok-add_child.ensures.there ∙ ap (λ n. children old.links.items c.args.above ++ n ∷ []) c.len-child.ensures in
    others_grown old.below.items c.push_reserved.new.self.items new is old.below_others c.requires.above old.links.items c.add_child.new.links.items there
    c.add_child.ensures.others c.in_ok-add_child.ensures.last c.add_child.ensures.grows old.no_others

pub returns-clause-found : goal.returns-clause-found
returns-clause-found c =
    let old = c.args.self.now in
    let new : Below = record { above = c.args.above; step = c.args.step } in
    let is = c.push_reserved.ensures.items ∙ ap (λ bs. bs ++ new ∷ []) c.reserve.ensures.items in
    new_place old.below.items c.push_reserved.new.self.items new is old.below_others c.requires.above (c.len-child.result + 1)
    (length_more old.below.items c.push_reserved.new.self.items new c.len-child.result is c.len-child.ensures)
