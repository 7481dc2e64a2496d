-- The map is made of the pairs that are collected, which are all of them.
use Rattle.std.proofs.Common.{◌≡◌, sym, ◌∙◌, subst}
use Rattle.std.proofs.lemmas.List.{map-id}
use Rattle.std.proofs.lemmas.Iterator.{items_from_drains}
use Rattle.std.proofs.lemmas.Iterator.Adapters.{YieldsList-from_vec}
use Rattle.bitcode_serde_types.proofs.EntryLemmas.{LooksUp, entries_are, told_by_equality}
use Rattle.bitcode_serde_types.proofs.maps.hashed_map.Goals as goal

pub returns-clause-entries : goal.returns-clause-entries
returns-clause-entries g c = λ value.
    let ran = c.in_ok-from_iter.ensures.ran in
    let pairs = c.args.pairs.items in
    let eq = g.K.PartialEq.eq in
    let key = g.K.HasShape.datum in
    let told = told_by_equality key g.met.K.PartialOrd.laws g.met.K.Ord.matches_partial_cmp g.met.K.KeyAs.told in
    let made = c.in_ok-from_iter.field-0.entries in
    let all : ran.1 ≡ pairs = sym (map-id ran.1) ∙ items_from_drains ran.1 ran.3 (YieldsList-from_vec pairs ran.2.0 (ran.2.1 ∙ c.args.pairs.ok.0)) in
    entries_are eq key value told pairs made (subst (λ xs. LooksUp eq key value told xs made) all ran.4.0) ran.4.1
