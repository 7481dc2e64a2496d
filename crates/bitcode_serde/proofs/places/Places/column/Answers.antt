use Rattle.std.proofs.Common.{sym, ◌∙◌, ap}
use Rattle.bitcode_serde.specs.Links.{column_link}
use Rattle.bitcode_serde.proofs.EntryLemmas.{found_entry, no_entry}
use Rattle.bitcode_serde.proofs.LinkLemmas.{column_got, column_none}
use Rattle.bitcode_serde.proofs.places.Places.column.Goals as goal

pub returns-in-Some : goal.returns-in-Some
returns-in-Some c =
    let h = c.in-Some.ensures.lookup in
    let there = found_entry c.deref.result.now c.args.place c.in-Some.links.now h.3.0 (h.3.1 c.in-Some.links.now) in
    sym (column_got c.in-Some.links.now c.deref.result.now c.args.place there) ∙ ap (λ ls. column_link ls c.args.place) c.deref.ensures.value

pub returns-in-None : goal.returns-in-None
returns-in-None c =
    sym (column_none c.deref.result.now c.args.place (no_entry c.deref.result.now c.args.place c.in-None.ensures.lookup.3))
    ∙ ap (λ ls. column_link ls c.args.place) c.deref.ensures.value
