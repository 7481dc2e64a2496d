-- A text goes to the column of its place.
use Rattle.std.proofs.Common.{None, [], ◌∷◌, length, refl, ap}
use Rattle.bitcode_serde.specs.Places.{places}
use Rattle.bitcode_coder.specs.Columns.{texts}
use Rattle.bitcode_shapes.specs.Datum.{text}
use Rattle.bitcode_serde.proofs.FiledLemmas.{filed_set}
use Rattle.bitcode_serde.proofs.OutcomeLemmas.{on_ok}
use Rattle.bitcode_serde.proofs.WritingLemmas.{put_there, memory_there, within_set}
use Rattle.bitcode_serde.proofs.WrittenLemmas.{if_err}
use Rattle.bitcode_serde.proofs.writer.state.Writer.put_text.Goals as goal

pub invariant_of-self-clause-inside : goal.invariant_of-self-clause-inside
invariant_of-self-clause-inside c =
    let old = c.args.self.now in
    let there = c.index_mut.result.now in
    within_set old.columns.items c.in-Some.i (length old.places.below.items) there (record { place = there.place; column = c.push_text.new.self }) c.index_mut.ensures.value refl old.inside

pub invariant_of-self-clause-filed : goal.invariant_of-self-clause-filed
invariant_of-self-clause-filed c =
    let old = c.args.self.now in
    let there = c.index_mut.result.now in
    filed_set (λ c. c.place) old.places.links.items old.columns.items c.in-Some.i there (record { place = there.place; column = c.push_text.new.self })
    (ap (λ z. z.place) c.index_mut.ensures.value) old.filed

pub returns-in-Some-clause-written : goal.returns-in-Some-clause-written
returns-in-Some-clause-written c =
    let old = c.args.self.now in
    let there = c.index_mut.result.now in
    on_ok _ _ _ c.push_text.result c.push_text.ensures.kind c.push_text.ensures.written
    (λ kinds entries. put_there old.places.below.items old.columns.items c.args.place c.in-Some.i (texts None) (text c.args.words.now ∷ []) there
    (record { place = there.place; column = c.push_text.new.self }) old.places.apart c.requires old.inside c.in-Some.ensures.first c.in-Some.ensures.some c.index_mut.ensures.value refl kinds.0 entries)

pub returns-in-Some-clause-refused : goal.returns-in-Some-clause-refused
returns-in-Some-clause-refused c =
    let old = c.args.self.now in
    if_err _ _ c.push_text.result
    (λ e h. memory_there (places old.places.below.items) old.columns.items c.args.place c.in-Some.i (texts None) c.index_mut.result.now e.reason
    c.in-Some.ensures.some c.index_mut.ensures.value h)
    c.push_text.ensures.refused

pub returns-in-None-clause-refused : goal.returns-in-None-clause-refused
returns-in-None-clause-refused c = if_err _ _ c.put_first_text.result (λ e memory root of_shape has. memory) c.put_first_text.ensures.refused
