-- Bytes go to the column of their place.
use Rattle.std.proofs.Common.{◌<◌, ◌++◌, false, map, length, refl, ap, sym, subst, ◌∙◌, arith}
use Rattle.std.proofs.lemmas.List.{length-map}
use Rattle.bitcode_coder.specs.Columns.{ints}
use Rattle.bitcode_coder.specs.Spelling.{natural}
use Rattle.bitcode_serde.specs.Places.{places}
use Rattle.bitcode_serde.specs.ReadColumns.{kind_of}
use Rattle.bitcode_serde.specs.Writing.{placed}
use Rattle.bitcode_serde.proofs.FiledLemmas.{filed_set}
use Rattle.bitcode_serde.proofs.OutcomeLemmas.{when_ok, on_ok}
use Rattle.bitcode_serde.proofs.WritingLemmas.{put_there, put_behind, memory_there, within_set}
use Rattle.bitcode_serde.proofs.WrittenLemmas.{if_err}
use Rattle.bitcode_serde.proofs.writer.state.Writer.put_bytes.Goals as goal

pub invariant_of-self-clause-inside : goal.invariant_of-self-clause-inside
invariant_of-self-clause-inside c =
    let old = c.args.self.now in
    let there = c.index_mut.result.now in
    within_set old.columns.items c.in-Some.i (length old.places.below.items) there (record { place = there.place; column = c.extend_bytes.new.self })
    c.index_mut.ensures.value refl old.inside

pub invariant_of-self-clause-filed : goal.invariant_of-self-clause-filed
invariant_of-self-clause-filed c =
    let old = c.args.self.now in
    let there = c.index_mut.result.now in
    filed_set (λ c. c.place) old.places.links.items old.columns.items c.in-Some.i there (record { place = there.place; column = c.extend_bytes.new.self })
    (ap (λ z. z.place) c.index_mut.ensures.value) old.filed

pub returns-in-Some-clause-written : goal.returns-in-Some-clause-written
returns-in-Some-clause-written c =
    let old = c.args.self.now in
    let there = c.index_mut.result.now in
    on_ok _ _ _ c.extend_bytes.result c.extend_bytes.ensures.kind c.extend_bytes.ensures.written
    (λ kinds entries. put_there old.places.below.items old.columns.items c.args.place c.in-Some.i (ints 1 false) (map natural c.args.bytes.now) there
    (record { place = there.place; column = c.extend_bytes.new.self }) old.places.apart c.requires old.inside c.in-Some.ensures.first c.in-Some.ensures.some
    c.index_mut.ensures.value refl kinds.0 entries)

pub returns-in-Some-clause-refused : goal.returns-in-Some-clause-refused
returns-in-Some-clause-refused c =
    let old = c.args.self.now in
    if_err _ _ c.extend_bytes.result
    (λ e h. memory_there (places old.places.below.items) old.columns.items c.args.place c.in-Some.i (ints 1 false) c.index_mut.result.now e.reason
    c.in-Some.ensures.some c.index_mut.ensures.value h)
    c.extend_bytes.ensures.refused

pub returns-in_ok-extend_bytes-in-None-clause-written : goal.returns-in_ok-extend_bytes-in-None-clause-written
returns-in_ok-extend_bytes-in-None-clause-written c =
    let old = c.args.self.now in
    let bytes = map natural c.args.bytes.now in
    let entries = c.in_ok-extend_bytes-in-None.ensures.written ∙ ap (λ ds. ds ++ bytes) c.of-column.ensures.empty in
    let some : 0 < length c.args.bytes.now = grind (arith, c.is_empty.ensures, c.if-is_empty.false) in
    when_ok c.add.result
    (λ items. ap (λ z. map (placed (places z.items)) c.add.new.self.columns.items) c.add.ensures.below
    ∙ put_behind old.places.below.items old.columns.items c.add.new.self.columns.items c.args.place (ints 1 false) bytes
    (record { place = c.args.place; column = c.extend_bytes-in-None.new.self }) old.places.apart c.requires old.inside c.in-None.ensures.none items
    refl (c.in_ok-extend_bytes-in-None.ensures.kind.0 ∙ ap kind_of c.of-column.ensures.kind) entries (subst (λ n. 0 < n) (sym (length-map c.args.bytes.now natural)) some))
    c.add.ensures.columns
