-- The machine takes the entry that the column gives.
use Rattle.std.proofs.Common.{rules, arith, refl, ap, length, ◌-◌, None}
use Rattle.bitcode_coder.specs.Columns.{texts}
use Rattle.bitcode_shapes.specs.Datum.{text}
use Rattle.bitcode_serde.proofs.FiledLemmas.{filed_set}
use Rattle.bitcode_serde.proofs.ReadingLemmas.{led, found_ready, ready_within, sized_at, sized_set}
use Rattle.bitcode_serde.proofs.reader.Reader.take_text.Goals as goal

pub index_mut-open-requires : goal.index_mut-open-requires
index_mut-open-requires c =
    let h = ready_within c.ready.new.self.columns.items c.args.place c.in_ok-i.i (texts None) c.in_ok-i.ensures.found in
    search (rules, h)

pub overflow_sub-open : goal.overflow_sub-open
overflow_sub-open c =
    let h = found_ready c.ready.new.self.columns.items c.args.place c.in_ok-i.i (texts None) c.index_mut-open.result.now c.in_ok-i.ensures.found c.index_mut-open.ensures.value in
    let some = h.1 in
    omega (arith, some)

pub take_text-words-requires-clause-texts : goal.take_text-words-requires-clause-texts
take_text-words-requires-clause-texts c =
    let h = found_ready c.ready.new.self.columns.items c.args.place c.in_ok-i.i (texts None) c.index_mut-open.result.now c.in_ok-i.ensures.found c.index_mut-open.ensures.value in h.0

pub take_text-words-requires-clause-some : goal.take_text-words-requires-clause-some
take_text-words-requires-clause-some c =
    let h = found_ready c.ready.new.self.columns.items c.args.place c.in_ok-i.i (texts None) c.index_mut-open.result.now c.in_ok-i.ensures.found c.index_mut-open.ensures.value in
    let some = h.1 in
    let size = sized_at c.ready.new.self.columns.items c.args.place c.in_ok-i.i (texts None) c.index_mut-open.result.now c.in_ok-i.ensures.sized c.in_ok-i.ensures.found c.index_mut-open.ensures.value in
    omega (arith, some, size)

pub returns-clause-sized : goal.returns-clause-sized
returns-clause-sized c =
    let size = sized_at c.ready.new.self.columns.items c.args.place c.in_ok-i.i (texts None) c.index_mut-open.result.now c.in_ok-i.ensures.sized c.in_ok-i.ensures.found c.index_mut-open.ensures.value in
    let taken = ap length c.take_text-words.ensures.taken in
    sized_set c.ready.new.self.columns.items c.in_ok-i.i _ c.in_ok-i.ensures.sized (omega (arith, size, taken))

pub returns-clause-leads : goal.returns-clause-leads
returns-clause-leads c =
    let there = c.index_mut-open.result.now in
    let h = found_ready c.ready.new.self.columns.items c.args.place c.in_ok-i.i (texts None) c.index_mut-open.result.now c.in_ok-i.ensures.found c.index_mut-open.ensures.value in
    let some = h.1 in
    led c.args.self.now c.ready.new.self _ c.args.place c.in_ok-i.i (texts None) there
    (record { place = there.place; left = there.left - 1; column = c.take_text-words.new.self })
    (text c.take_text-words.result.now) c.requires.place c.ready.ensures.below c.ready.ensures.below refl refl refl refl c.in_ok-i.ensures.found c.index_mut-open.ensures.value
    (record {
      place = refl;
      kind = c.take_text-words.ensures.kind;
      size = omega (arith, some);
      taken = c.take_text-words.ensures.taken;
      tallies = c.take_text-words.ensures.tallies;
    })
    c.in_ok-i.ensures.prepared

pub invariant_of-self-clause-filed : goal.invariant_of-self-clause-filed
invariant_of-self-clause-filed c =
    let r = c.ready.new.self in
    let there = c.index_mut-open.result.now in
    filed_set (λ c. c.place) r.places.links.items r.columns.items c.in_ok-i.i there (record { place = there.place; left = there.left - 1; column = c.take_text-words.new.self })
    (ap (λ z. z.place) c.index_mut-open.ensures.value) r.filed
