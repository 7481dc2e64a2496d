-- The machine takes the entries that the column gives.
use Rattle.std.proofs.Common.{◌≢◌, rules, arith, refl, ap, sym, ◌∙◌, map, ◌-◌}
use Rattle.std.proofs.lemmas.List.{length-map}
use Rattle.std.proofs.lemmas.Result.{err_from_is_err_and}
use Rattle.bitcode_memory.specs.declared.error.Reason.TheVariants.{OutOfMemory}
use Rattle.bitcode_coder.specs.Spelling.{natural}
use Rattle.bitcode_untyped.specs.Machine.{State}
use Rattle.bitcode_untyped.specs.Walk.{index_kind}
use Rattle.bitcode_serde.specs.Places.{places, place_at}
use Rattle.bitcode_serde.specs.ReadColumns.{IsColumnReason}
use Rattle.bitcode_serde.specs.Reading.{Stands, NotSoMany}
use Rattle.bitcode_serde.proofs.ColumnLemmas.{passed_on}
use Rattle.bitcode_serde.proofs.EachTakenLemmas.{led_each, stuck_each, none_of_many, left_behind, same_entry}
use Rattle.bitcode_serde.proofs.FiledLemmas.{filed_set}
use Rattle.bitcode_serde.proofs.ReadingLemmas.{found_ready, ready_within, sized_at, sized_set}
use Rattle.bitcode_serde.proofs.reader.Reader.take_bytes.Goals as goal

pub index_mut-open-requires : goal.index_mut-open-requires
index_mut-open-requires c =
    let h = ready_within c.ready.new.self.columns.items c.args.place c.in_ok-i.i index_kind c.in_ok-i.ensures.found in
    search (rules, h)

pub take_bytes-requires-clause-bytes : goal.take_bytes-requires-clause-bytes
take_bytes-requires-clause-bytes c =
    (found_ready c.ready.new.self.columns.items c.args.place c.in_ok-i.i index_kind c.index_mut-open.result.now c.in_ok-i.ensures.found c.index_mut-open.ensures.value).0

pub take_bytes-requires-clause-some : goal.take_bytes-requires-clause-some
take_bytes-requires-clause-some c =
    let size = sized_at c.ready.new.self.columns.items c.args.place c.in_ok-i.i index_kind c.index_mut-open.result.now c.in_ok-i.ensures.sized c.in_ok-i.ensures.found
    c.index_mut-open.ensures.value in
    let inside = ready_within c.ready.new.self.columns.items c.args.place c.in_ok-i.i index_kind c.in_ok-i.ensures.found in
    let same = ap (λ z. z.left) (same_entry c.ready.new.self.columns.items c.in_ok-i.i c.index.result.now c.index_mut-open.result.now inside c.index.ensures c.index_mut-open.ensures.value) in
    let some = c.if-index-count.false in
    omega (arith, size, same, some)

pub overflow_sub-open : goal.overflow_sub-open
overflow_sub-open c =
    let inside = ready_within c.ready.new.self.columns.items c.args.place c.in_ok-i.i index_kind c.in_ok-i.ensures.found in
    let same = ap (λ z. z.left) (same_entry c.ready.new.self.columns.items c.in_ok-i.i c.index.result.now c.index_mut-open.result.now inside c.index.ensures c.index_mut-open.ensures.value) in
    let some = c.if-index-count.false in
    omega (arith, same, some)

pub index-requires : goal.index-requires
index-requires c =
    let h = ready_within c.ready.new.self.columns.items c.args.place c.in_ok-i.i index_kind c.in_ok-i.ensures.found in
    search (rules, h)

pub returns-then-index-count-clause-refused : goal.returns-then-index-count-clause-refused
returns-then-index-count-clause-refused c =
    let r = c.args.self.now in
    let p = place_at (places r.places.below.items) c.args.place in
    let there = c.index.result.now in
    let cs = c.ready.new.self.columns.items in
    let size = sized_at cs c.args.place c.in_ok-i.i index_kind there c.in_ok-i.ensures.sized c.in_ok-i.ensures.found c.index.ensures in
    let some = (found_ready cs c.args.place c.in_ok-i.i index_kind there c.in_ok-i.ensures.found c.index.ensures).1 in
    passed_on (λ e. IsColumnReason e.reason × (e.reason ≢ OutOfMemory → (a : State) → Stands r a → NotSoMany a p index_kind c.args.count))
    c.err.result _ _ c.err.ensures refl (
      tt,
      λ other. stuck_each r c.ready.new.self c.args.place c.in_ok-i.i index_kind there c.requires.place c.ready.ensures.below c.in_ok-i.ensures.found c.index.ensures
          c.in_ok-i.ensures.prepared c.args.count size some c.if-index-count.true,
    )

pub returns-clause-sized : goal.returns-clause-sized
returns-clause-sized c =
    let there = c.index_mut-open.result.now in
    let size = sized_at c.ready.new.self.columns.items c.args.place c.in_ok-i.i index_kind there c.in_ok-i.ensures.sized c.in_ok-i.ensures.found c.index_mut-open.ensures.value in
    sized_set c.ready.new.self.columns.items c.in_ok-i.i _ c.in_ok-i.ensures.sized
    (left_behind natural there.left c.args.count c.in_ok-bytes.bytes.items _ _ size c.in_ok-bytes.ensures.size c.in_ok-bytes.ensures.taken)

pub returns-clause-leads : goal.returns-clause-leads
returns-clause-leads c =
    let r = c.ready.new.self in
    let there = c.index_mut-open.result.now in
    let size = sized_at r.columns.items c.args.place c.in_ok-i.i index_kind there c.in_ok-i.ensures.sized c.in_ok-i.ensures.found c.index_mut-open.ensures.value in
    led_each c.args.self.now r c.args.place c.in_ok-i.i index_kind there c.requires.place c.ready.ensures.below c.in_ok-i.ensures.found c.index_mut-open.ensures.value
    c.in_ok-i.ensures.prepared _ (record { place = there.place; left = there.left - c.args.count; column = c.take_bytes.new.self }) (map natural c.in_ok-bytes.bytes.items)
    c.ready.ensures.below refl refl refl refl
    (record {
      place = refl;
      kind = c.take_bytes.ensures.kind;
      size = left_behind natural there.left c.args.count c.in_ok-bytes.bytes.items _ _ size c.in_ok-bytes.ensures.size c.in_ok-bytes.ensures.taken;
      taken = c.in_ok-bytes.ensures.taken;
      tallies = c.take_bytes.ensures.tallies;
    })
    (λ e. c.if-count-eq0.false (sym c.in_ok-bytes.ensures.size ∙ sym (length-map c.in_ok-bytes.bytes.items natural) ∙ e))

pub invariant_of-self-clause-filed : goal.invariant_of-self-clause-filed
invariant_of-self-clause-filed c =
    let r = c.ready.new.self in
    let there = c.index_mut-open.result.now in
    filed_set (λ c. c.place) r.places.links.items r.columns.items c.in_ok-i.i there (record { place = there.place; left = there.left - c.args.count; column = c.take_bytes.new.self })
    (ap (λ z. z.place) c.index_mut-open.ensures.value) r.filed

pub returns-in_err-i-clause-refused : goal.returns-in_err-i-clause-refused
returns-in_err-i-clause-refused c =
    let r = c.args.self.now in
    let p = place_at (places r.places.below.items) c.args.place in
    let y = err_from_is_err_and c.from_residual.result c.from_residual.ensures.1 in
    let h = c.in_err-i.ensures.refused in
    passed_on (λ e. IsColumnReason e.reason × (e.reason ≢ OutOfMemory → (a : State) → Stands r a → NotSoMany a p index_kind c.args.count))
    c.from_residual.result c.in_err-i.field-0.0 y.0 y.1 y.2
    (h.0, λ other a s. none_of_many a p index_kind c.args.count c.if-count-eq0.false (h.1 other a s))
