-- The machine takes the entry that the column gives.
use Rattle.std.proofs.Common.{rules, arith, refl, ap, subst, length, ◌-◌}
use Rattle.bitcode_serde.specs.ReadColumns.{kind_of, kind_in_code, IsCaseOf}
use Rattle.bitcode_untyped.specs.View.{datum_of}
use Rattle.bitcode_serde.proofs.ColumnLemmas.{same_in_code}
use Rattle.bitcode_serde.proofs.FiledLemmas.{filed_set}
use Rattle.bitcode_serde.proofs.ReadingLemmas.{led, found_ready, ready_within, sized_at, sized_set}
use Rattle.bitcode_serde.proofs.reader.Reader.take.Goals as goal

pub index_mut-open-requires : goal.index_mut-open-requires
index_mut-open-requires c =
    let h = ready_within c.ready.new.self.columns.items c.args.place c.in_ok-i.i (kind_of c.args.kind) c.in_ok-i.ensures.found in
    search (rules, h)

pub overflow_sub-open : goal.overflow_sub-open
overflow_sub-open c =
    let h = found_ready c.ready.new.self.columns.items c.args.place c.in_ok-i.i (kind_of c.args.kind) c.index_mut-open.result.now c.in_ok-i.ensures.found c.index_mut-open.ensures.value in
    let some = h.1 in
    omega (arith, some)

pub take-requires : goal.take-requires
take-requires c =
    let h = found_ready c.ready.new.self.columns.items c.args.place c.in_ok-i.i (kind_of c.args.kind) c.index_mut-open.result.now c.in_ok-i.ensures.found c.index_mut-open.ensures.value in
    let some = h.1 in
    let size = sized_at c.ready.new.self.columns.items c.args.place c.in_ok-i.i (kind_of c.args.kind) c.index_mut-open.result.now c.in_ok-i.ensures.sized c.in_ok-i.ensures.found
    c.index_mut-open.ensures.value in
    omega (arith, some, size)

pub returns-clause-sized : goal.returns-clause-sized
returns-clause-sized c =
    let cs = c.ready.new.self.columns.items in
    let there = c.index_mut-open.result.now in
    let size = sized_at cs c.args.place c.in_ok-i.i (kind_of c.args.kind) there c.in_ok-i.ensures.sized c.in_ok-i.ensures.found c.index_mut-open.ensures.value in
    let taken = ap length c.in_ok-value.ensures.taken in
    sized_set cs c.in_ok-i.i _ c.in_ok-i.ensures.sized (omega (arith, size, taken))

pub returns-clause-leads : goal.returns-clause-leads
returns-clause-leads c =
    let cs = c.ready.new.self.columns.items in
    let there = c.index_mut-open.result.now in
    let h = found_ready cs c.args.place c.in_ok-i.i (kind_of c.args.kind) there c.in_ok-i.ensures.found c.index_mut-open.ensures.value in
    let some = h.1 in
    led c.args.self.now c.ready.new.self _ c.args.place c.in_ok-i.i (kind_of c.args.kind) there
    (record { place = there.place; left = there.left - 1; column = c.take.new.self })
    (datum_of c.in_ok-value.value) c.requires.place c.ready.ensures.below c.ready.ensures.below refl refl refl refl c.in_ok-i.ensures.found c.index_mut-open.ensures.value
    (record {
      place = refl;
      kind = c.take.ensures.kind;
      size = omega (arith, some);
      taken = c.in_ok-value.ensures.taken;
      tallies = c.take.ensures.tallies;
    })
    c.in_ok-i.ensures.prepared

pub returns-clause-of_case : goal.returns-clause-of_case
returns-clause-of_case c =
    let there = c.index_mut-open.result.now in
    let h = found_ready c.ready.new.self.columns.items c.args.place c.in_ok-i.i (kind_of c.args.kind) there c.in_ok-i.ensures.found c.index_mut-open.ensures.value in
    subst (λ k. IsCaseOf k c.in_ok-value.value) (same_in_code (kind_in_code there.column) c.args.kind h.0) c.in_ok-value.ensures.of_case

pub invariant_of-self-clause-filed : goal.invariant_of-self-clause-filed
invariant_of-self-clause-filed c =
    let r = c.ready.new.self in
    let there = c.index_mut-open.result.now in
    filed_set (λ c. c.place) r.places.links.items r.columns.items c.in_ok-i.i there (record { place = there.place; left = there.left - 1; column = c.take.new.self })
    (ap (λ z. z.place) c.index_mut-open.ensures.value) r.filed
