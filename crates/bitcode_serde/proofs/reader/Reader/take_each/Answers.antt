-- The machine takes the entries that the column gives, one after another.
use Rattle.std.proofs.Common.{◌≢◌, rules, arith, refl, ap, sym, subst, ◌∙◌, map, ◌-◌}
use Rattle.std.specs.List.{AllByRecursion}
use Rattle.std.proofs.lemmas.List.{length-map}
use Rattle.std.proofs.lemmas.Result.{err_from_is_err_and}
use Rattle.bitcode_memory.specs.declared.error.Reason.TheVariants.{OutOfMemory}
use Rattle.bitcode_untyped.specs.View.{datum_of}
use Rattle.bitcode_untyped.specs.Machine.{State}
use Rattle.bitcode_serde.specs.Places.{places, place_at}
use Rattle.bitcode_serde.specs.ReadColumns.{kind_of, kind_in_code, IsCaseOf, IsColumnReason}
use Rattle.bitcode_serde.specs.Reading.{Stands, NotSoMany}
use Rattle.bitcode_serde.proofs.ColumnLemmas.{passed_on, same_in_code}
use Rattle.bitcode_serde.proofs.EachTakenLemmas.{led_each, stuck_each, none_of_many, left_behind, same_entry}
use Rattle.bitcode_serde.proofs.FiledLemmas.{filed_set}
use Rattle.bitcode_serde.proofs.ReadingLemmas.{found_ready, ready_within, sized_at, sized_set}
use Rattle.bitcode_serde.proofs.reader.Reader.take_each.Goals as goal

pub index_mut-open-requires : goal.index_mut-open-requires
index_mut-open-requires c =
    let h = ready_within c.ready.new.self.columns.items c.args.place c.in_ok-found.found (kind_of c.args.kind) c.in_ok-found.ensures.found in
    search (rules, h)

pub take_each-requires : goal.take_each-requires
take_each-requires c =
    let size = sized_at c.ready.new.self.columns.items c.args.place c.in_ok-found.found (kind_of c.args.kind) c.index_mut-open.result.now c.in_ok-found.ensures.sized c.in_ok-found.ensures.found
    c.index_mut-open.ensures.value in
    let inside = ready_within c.ready.new.self.columns.items c.args.place c.in_ok-found.found (kind_of c.args.kind) c.in_ok-found.ensures.found in
    let same = ap (λ z. z.left) (same_entry c.ready.new.self.columns.items c.in_ok-found.found c.index.result.now c.index_mut-open.result.now inside c.index.ensures c.index_mut-open.ensures.value) in
    let some = c.if-index-count.false in
    omega (arith, size, same, some)

pub overflow_sub-open : goal.overflow_sub-open
overflow_sub-open c =
    let inside = ready_within c.ready.new.self.columns.items c.args.place c.in_ok-found.found (kind_of c.args.kind) c.in_ok-found.ensures.found in
    let same = ap (λ z. z.left) (same_entry c.ready.new.self.columns.items c.in_ok-found.found c.index.result.now c.index_mut-open.result.now inside c.index.ensures c.index_mut-open.ensures.value) in
    let some = c.if-index-count.false in
    omega (arith, same, some)

pub index-requires : goal.index-requires
index-requires c =
    let h = ready_within c.ready.new.self.columns.items c.args.place c.in_ok-found.found (kind_of c.args.kind) c.in_ok-found.ensures.found in
    search (rules, h)

pub returns-then-index-count-clause-refused : goal.returns-then-index-count-clause-refused
returns-then-index-count-clause-refused c =
    let r = c.args.self.now in
    let p = place_at (places r.places.below.items) c.args.place in
    let there = c.index.result.now in
    let cs = c.ready.new.self.columns.items in
    let size = sized_at cs c.args.place c.in_ok-found.found (kind_of c.args.kind) there c.in_ok-found.ensures.sized c.in_ok-found.ensures.found c.index.ensures in
    let some = (found_ready cs c.args.place c.in_ok-found.found (kind_of c.args.kind) there c.in_ok-found.ensures.found c.index.ensures).1 in
    passed_on (λ e. IsColumnReason e.reason × (e.reason ≢ OutOfMemory → (a : State) → Stands r a → NotSoMany a p (kind_of c.args.kind) c.args.count))
    c.err.result _ _ c.err.ensures refl (
      tt,
      λ other. stuck_each r c.ready.new.self c.args.place c.in_ok-found.found (kind_of c.args.kind) there c.requires.place c.ready.ensures.below c.in_ok-found.ensures.found c.index.ensures
          c.in_ok-found.ensures.prepared c.args.count size some c.if-index-count.true,
    )

pub returns-clause-sized : goal.returns-clause-sized
returns-clause-sized c =
    let there = c.index_mut-open.result.now in
    let size = sized_at c.ready.new.self.columns.items c.args.place c.in_ok-found.found (kind_of c.args.kind) there c.in_ok-found.ensures.sized c.in_ok-found.ensures.found c.index_mut-open.ensures.value in
    sized_set c.ready.new.self.columns.items c.in_ok-found.found _ c.in_ok-found.ensures.sized
    (left_behind datum_of there.left c.args.count c.in_ok-values.values.items _ _ size c.in_ok-values.ensures.size c.in_ok-values.ensures.taken)

pub returns-clause-leads : goal.returns-clause-leads
returns-clause-leads c =
    let r = c.ready.new.self in
    let there = c.index_mut-open.result.now in
    let size = sized_at r.columns.items c.args.place c.in_ok-found.found (kind_of c.args.kind) there c.in_ok-found.ensures.sized c.in_ok-found.ensures.found c.index_mut-open.ensures.value in
    led_each c.args.self.now r c.args.place c.in_ok-found.found (kind_of c.args.kind) there c.requires.place c.ready.ensures.below c.in_ok-found.ensures.found c.index_mut-open.ensures.value
    c.in_ok-found.ensures.prepared _ (record { place = there.place; left = there.left - c.args.count; column = c.take_each.new.self }) (map datum_of c.in_ok-values.values.items)
    c.ready.ensures.below refl refl refl refl
    (record {
      place = refl;
      kind = c.take_each.ensures.kind;
      size = left_behind datum_of there.left c.args.count c.in_ok-values.values.items _ _ size c.in_ok-values.ensures.size c.in_ok-values.ensures.taken;
      taken = c.in_ok-values.ensures.taken;
      tallies = c.take_each.ensures.tallies;
    })
    (λ e. c.if-count-eq0.false (sym c.in_ok-values.ensures.size ∙ sym (length-map c.in_ok-values.values.items datum_of) ∙ e))

pub returns-clause-of_case : goal.returns-clause-of_case
returns-clause-of_case c =
    let there = c.index_mut-open.result.now in
    let h = found_ready c.ready.new.self.columns.items c.args.place c.in_ok-found.found (kind_of c.args.kind) there c.in_ok-found.ensures.found c.index_mut-open.ensures.value in
    subst (λ k. AllByRecursion (IsCaseOf k) c.in_ok-values.values.items) (same_in_code (kind_in_code there.column) c.args.kind h.0) c.in_ok-values.ensures.of_case

pub invariant_of-self-clause-filed : goal.invariant_of-self-clause-filed
invariant_of-self-clause-filed c =
    let r = c.ready.new.self in
    let there = c.index_mut-open.result.now in
    filed_set (λ c. c.place) r.places.links.items r.columns.items c.in_ok-found.found there (record { place = there.place; left = there.left - c.args.count; column = c.take_each.new.self })
    (ap (λ z. z.place) c.index_mut-open.ensures.value) r.filed

pub returns-in_err-found-clause-refused : goal.returns-in_err-found-clause-refused
returns-in_err-found-clause-refused c =
    let r = c.args.self.now in
    let p = place_at (places r.places.below.items) c.args.place in
    let y = err_from_is_err_and c.from_residual.result c.from_residual.ensures.1 in
    let h = c.in_err-found.ensures.refused in
    passed_on (λ e. IsColumnReason e.reason × (e.reason ≢ OutOfMemory → (a : State) → Stands r a → NotSoMany a p (kind_of c.args.kind) c.args.count))
    c.from_residual.result c.in_err-found.field-0.0 y.0 y.1 y.2
    (h.0, λ other a s. none_of_many a p (kind_of c.args.kind) c.args.count c.if-count-eq0.false (h.1 other a s))
