-- The machine takes the entry that the column gives, and its value stands behind the others.
use Rattle.std.proofs.Common.{rules, arith, refl, ap, subst, length, ◌-◌}
use Rattle.bitcode_serde.specs.ReadColumns.{kind_of, kind_in_code, IsCaseOf}
use Rattle.bitcode_untyped.specs.View.{datum_of}
use Rattle.bitcode_serde.proofs.ColumnLemmas.{same_in_code}
use Rattle.bitcode_serde.proofs.FiledLemmas.{filed_set}
use Rattle.bitcode_serde.proofs.ReadingLemmas.{led, found_ready, ready_within, sized_at, sized_set}
use Rattle.bitcode_serde.proofs.reader.Reader.take_behind.Goals as goal

pub index_mut-open-requires : goal.index_mut-open-requires
index_mut-open-requires c =
    let h = ready_within c.ready.new.self.columns.items c.args.place c.in_ok-at.at (kind_of c.args.kind) c.in_ok-at.ensures.found in
    search (rules, h)

pub overflow_sub-open : goal.overflow_sub-open
overflow_sub-open c =
    let h = found_ready c.ready.new.self.columns.items c.args.place c.in_ok-at.at (kind_of c.args.kind) c.index_mut-open.result.now c.in_ok-at.ensures.found c.index_mut-open.ensures.value in
    let some = h.1 in
    omega (arith, some)

pub take_behind-requires : goal.take_behind-requires
take_behind-requires c =
    let h = found_ready c.ready.new.self.columns.items c.args.place c.in_ok-at.at (kind_of c.args.kind) c.index_mut-open.result.now c.in_ok-at.ensures.found c.index_mut-open.ensures.value in
    let some = h.1 in
    let size = sized_at c.ready.new.self.columns.items c.args.place c.in_ok-at.at (kind_of c.args.kind) c.index_mut-open.result.now c.in_ok-at.ensures.sized c.in_ok-at.ensures.found
    c.index_mut-open.ensures.value in
    omega (arith, some, size)

pub returns-clause-sized : goal.returns-clause-sized
returns-clause-sized c =
    let cs = c.ready.new.self.columns.items in
    let there = c.index_mut-open.result.now in
    let size = sized_at cs c.args.place c.in_ok-at.at (kind_of c.args.kind) there c.in_ok-at.ensures.sized c.in_ok-at.ensures.found c.index_mut-open.ensures.value in
    let taken = ap length c.in_ok-take_behind.ensures.taken.taken in
    sized_set cs c.in_ok-at.at _ c.in_ok-at.ensures.sized (omega (arith, size, taken))

pub returns-clause-leads : goal.returns-clause-leads
returns-clause-leads c =
    let cs = c.ready.new.self.columns.items in
    let there = c.index_mut-open.result.now in
    let h = found_ready cs c.args.place c.in_ok-at.at (kind_of c.args.kind) there c.in_ok-at.ensures.found c.index_mut-open.ensures.value in
    let some = h.1 in
    let one = c.in_ok-take_behind.ensures.taken in record {
      value = one.value;
      added = one.added;
      leads =
          led c.args.self.now c.ready.new.self _ c.args.place c.in_ok-at.at (kind_of c.args.kind) there
          (record { place = there.place; left = there.left - 1; column = c.take_behind.new.self })
          (datum_of one.value) c.requires.place c.ready.ensures.below c.ready.ensures.below refl refl refl refl c.in_ok-at.ensures.found c.index_mut-open.ensures.value
          (record {
            place = refl;
            kind = c.take_behind.ensures.kind;
            size = omega (arith, some);
            taken = one.taken;
            tallies = c.take_behind.ensures.tallies;
          })
          c.in_ok-at.ensures.prepared;
      of_case = subst (λ k. IsCaseOf k one.value) (same_in_code (kind_in_code there.column) c.args.kind h.0) one.of_case;
    }

pub invariant_of-self-clause-filed : goal.invariant_of-self-clause-filed
invariant_of-self-clause-filed c =
    let r = c.ready.new.self in
    let there = c.index_mut-open.result.now in
    filed_set (λ c. c.place) r.places.links.items r.columns.items c.in_ok-at.at there (record { place = there.place; left = there.left - 1; column = c.take_behind.new.self })
    (ap (λ z. z.place) c.index_mut-open.ensures.value) r.filed
