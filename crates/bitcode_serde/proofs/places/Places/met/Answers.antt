-- The children of the place are those below it.
use Rattle.std.proofs.Common.{rules, ◌≡◌, [], true, None, Some, slice_get, sym, subst, ◌≤◌}
use Rattle.std.specs.Prelude.{IsSomeAnd}
use Rattle.bitcode_serde.specs.Links.{is_among}
use Rattle.bitcode_serde.proofs.EntryLemmas.{found_entry, no_entry}
use Rattle.bitcode_serde.proofs.LinkLemmas.{children_got, children_none, last_got}
use Rattle.bitcode_serde.proofs.PlaceLemmas.{child_place, none_below}
use Rattle.bitcode_serde.proofs.places.Places.met.Goals as goal

pub find-requires : goal.find-requires
find-requires c = λ i among b got j field.
    let old = c.args.self.now in
    let l = c.in-Some.links.now in
    let look = c.in-Some.ensures.lookup in
    let there = subst (λ ls. slice_get ls c.args.above ≡ Some l) c.deref.ensures.value
    (found_entry c.deref.result.now c.args.above l look.3.0 (look.3.1 l)) in
    let h = old.no_others c.args.above i (subst (λ cs. is_among i cs ≡ true) (sym (children_got l old.links.items c.args.above there)) among) in
    subst (λ n. j ≤ n) (last_got l old.links.items c.args.above there)
    ((h.1 b (subst (λ bs. slice_get bs i ≡ Some b) c.deref-in-Some.ensures.value got)).1 j field)

pub overflow_add-result : goal.overflow_add-result
overflow_add-result c =
    let old = c.args.self.now in
    let l = c.in-Some.links.now in
    let look = c.in-Some.ensures.lookup in
    let there = subst (λ ls. slice_get ls c.args.above ≡ Some l) c.deref.ensures.value
    (found_entry c.deref.result.now c.args.above l look.3.0 (look.3.1 l)) in
    let h = (old.no_others c.args.above c.in-Some-find.i
    (subst (λ cs. is_among c.in-Some-find.i cs ≡ true) (sym (children_got l old.links.items c.args.above there)) c.in-Some-find.ensures.found.0)).0 in
    search (rules, h)

pub returns-in-Some-find-clause-found : goal.returns-in-Some-find-clause-found
returns-in-Some-find-clause-found c =
    let old = c.args.self.now in
    let l = c.in-Some.links.now in
    let look = c.in-Some.ensures.lookup in
    let there = subst (λ ls. slice_get ls c.args.above ≡ Some l) c.deref.ensures.value
    (found_entry c.deref.result.now c.args.above l look.3.0 (look.3.1 l)) in
    child_place old.below.items old.links.items c.args.above c.in-Some-find.i c.args.step old.below_others old.no_others
    (subst (λ cs. is_among c.in-Some-find.i cs ≡ true) (sym (children_got l old.links.items c.args.above there)) c.in-Some-find.ensures.found.0)
    (subst (λ bs. IsSomeAnd (slice_get bs c.in-Some-find.i) (λ b. b.step ≡ c.args.step)) c.deref-in-Some.ensures.value c.in-Some-find.ensures.found.1)

pub returns-in-None-find-clause-none : goal.returns-in-None-find-clause-none
returns-in-None-find-clause-none c =
    let old = c.args.self.now in
    let l = c.in-Some.links.now in
    let look = c.in-Some.ensures.lookup in
    let there = subst (λ ls. slice_get ls c.args.above ≡ Some l) c.deref.ensures.value
    (found_entry c.deref.result.now c.args.above l look.3.0 (look.3.1 l)) in
    none_below old.below.items old.links.items c.args.above c.args.step old.linked
    (λ i among b got. c.in-None-find.ensures.none i (subst (λ cs. is_among i cs ≡ true) (children_got l old.links.items c.args.above there) among) b
    (subst (λ bs. slice_get bs i ≡ Some b) (sym c.deref-in-Some.ensures.value) got))

pub returns-in-None-clause-none : goal.returns-in-None-clause-none
returns-in-None-clause-none c =
    let old = c.args.self.now in
    let away = subst (λ ls. slice_get ls c.args.above ≡ None) c.deref.ensures.value
    (no_entry c.deref.result.now c.args.above c.in-None.ensures.lookup.3) in
    none_below old.below.items old.links.items c.args.above c.args.step old.linked
    (λ i among b got. let none : is_among i [] ≡ true = subst (λ cs. is_among i cs ≡ true) (children_none old.links.items c.args.above away) among in cc)
