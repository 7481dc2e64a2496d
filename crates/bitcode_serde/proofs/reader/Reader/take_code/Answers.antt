-- The machine takes the entry that the column gives.
use Rattle.std.proofs.Common.{rules, arith, refl, ap, length, ◌-◌, false}
use Rattle.bitcode_coder.specs.Columns.{ints}
use Rattle.bitcode_coder.specs.Spelling.{natural}
use Rattle.bitcode_serde.proofs.FiledLemmas.{filed_set}
use Rattle.bitcode_serde.proofs.ReadingLemmas.{led, found_ready, ready_within, sized_at, sized_set}
use Rattle.bitcode_serde.proofs.reader.Reader.take_code.Goals as goal

pub index_mut-open-requires : goal.index_mut-open-requires
index_mut-open-requires c =
    let h = ready_within c.ready.new.self.columns.items c.args.place c.in_ok-i.i (ints 4 false) c.in_ok-i.ensures.found in
    search (rules, h)

pub overflow_sub-open : goal.overflow_sub-open
overflow_sub-open c =
    let h = found_ready c.ready.new.self.columns.items c.args.place c.in_ok-i.i (ints 4 false) c.index_mut-open.result.now c.in_ok-i.ensures.found c.index_mut-open.ensures.value in
    let some = h.1 in
    omega (arith, some)

pub take_code-code-requires-clause-codes : goal.take_code-code-requires-clause-codes
take_code-code-requires-clause-codes c =
    let h = found_ready c.ready.new.self.columns.items c.args.place c.in_ok-i.i (ints 4 false) c.index_mut-open.result.now c.in_ok-i.ensures.found c.index_mut-open.ensures.value in h.0

pub take_code-code-requires-clause-some : goal.take_code-code-requires-clause-some
take_code-code-requires-clause-some c =
    let h = found_ready c.ready.new.self.columns.items c.args.place c.in_ok-i.i (ints 4 false) c.index_mut-open.result.now c.in_ok-i.ensures.found c.index_mut-open.ensures.value in
    let some = h.1 in
    let size = sized_at c.ready.new.self.columns.items c.args.place c.in_ok-i.i (ints 4 false) c.index_mut-open.result.now c.in_ok-i.ensures.sized c.in_ok-i.ensures.found c.index_mut-open.ensures.value in
    omega (arith, some, size)

pub returns-clause-sized : goal.returns-clause-sized
returns-clause-sized c =
    let size = sized_at c.ready.new.self.columns.items c.args.place c.in_ok-i.i (ints 4 false) c.index_mut-open.result.now c.in_ok-i.ensures.sized c.in_ok-i.ensures.found c.index_mut-open.ensures.value in
    let taken = ap length c.take_code-code.ensures.taken in
    sized_set c.ready.new.self.columns.items c.in_ok-i.i _ c.in_ok-i.ensures.sized (omega (arith, size, taken))

pub returns-clause-leads : goal.returns-clause-leads
returns-clause-leads c =
    let there = c.index_mut-open.result.now in
    let h = found_ready c.ready.new.self.columns.items c.args.place c.in_ok-i.i (ints 4 false) c.index_mut-open.result.now c.in_ok-i.ensures.found c.index_mut-open.ensures.value in
    let some = h.1 in
    led c.args.self.now c.ready.new.self _ c.args.place c.in_ok-i.i (ints 4 false) there
    (record { place = there.place; left = there.left - 1; column = c.take_code-code.new.self })
    (natural c.take_code-code.result) c.requires.place c.ready.ensures.below c.ready.ensures.below refl refl refl refl c.in_ok-i.ensures.found c.index_mut-open.ensures.value
    (record {
      place = refl;
      kind = c.take_code-code.ensures.kind;
      size = omega (arith, some);
      taken = c.take_code-code.ensures.taken;
      tallies = c.take_code-code.ensures.tallies;
    })
    c.in_ok-i.ensures.prepared

pub invariant_of-self-clause-filed : goal.invariant_of-self-clause-filed
invariant_of-self-clause-filed c =
    let r = c.ready.new.self in
    let there = c.index_mut-open.result.now in
    filed_set (λ c. c.place) r.places.links.items r.columns.items c.in_ok-i.i there (record { place = there.place; left = there.left - 1; column = c.take_code-code.new.self })
    (ap (λ z. z.place) c.index_mut-open.ensures.value) r.filed
