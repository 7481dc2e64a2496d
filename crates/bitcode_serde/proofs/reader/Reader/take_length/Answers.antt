-- The machine takes the entry that the column gives.
use Rattle.std.proofs.Common.{rules, arith, refl, ap, length, ◌-◌, ◌∙◌, None}
use Rattle.bitcode_coder.specs.Columns.{lengths}
use Rattle.bitcode_coder.specs.Spelling.{natural}
use Rattle.bitcode_serde.proofs.FiledLemmas.{filed_set}
use Rattle.bitcode_serde.proofs.ReadingLemmas.{led_telling, found_ready, ready_within, sized_at, sized_set}
use Rattle.bitcode_serde.proofs.reader.Reader.take_length.Goals as goal

pub index_mut-open-requires : goal.index_mut-open-requires
index_mut-open-requires c =
    let h = ready_within c.ready.new.self.columns.items c.args.place c.in_ok-i.i (lengths None) c.in_ok-i.ensures.found in
    search (rules, h)

pub overflow_sub-open : goal.overflow_sub-open
overflow_sub-open c =
    let h = found_ready c.ready.new.self.columns.items c.args.place c.in_ok-i.i (lengths None) c.index_mut-open.result.now c.in_ok-i.ensures.found c.index_mut-open.ensures.value in
    let some = h.1 in
    omega (arith, some)

pub take_length-length-requires-clause-lengths : goal.take_length-length-requires-clause-lengths
take_length-length-requires-clause-lengths c =
    let h = found_ready c.ready.new.self.columns.items c.args.place c.in_ok-i.i (lengths None) c.index_mut-open.result.now c.in_ok-i.ensures.found c.index_mut-open.ensures.value in h.0

pub take_length-length-requires-clause-some : goal.take_length-length-requires-clause-some
take_length-length-requires-clause-some c =
    let h = found_ready c.ready.new.self.columns.items c.args.place c.in_ok-i.i (lengths None) c.index_mut-open.result.now c.in_ok-i.ensures.found c.index_mut-open.ensures.value in
    let some = h.1 in
    let size = sized_at c.ready.new.self.columns.items c.args.place c.in_ok-i.i (lengths None) c.index_mut-open.result.now c.in_ok-i.ensures.sized c.in_ok-i.ensures.found c.index_mut-open.ensures.value in
    omega (arith, some, size)

pub returns-clause-sized : goal.returns-clause-sized
returns-clause-sized c =
    let size = sized_at c.ready.new.self.columns.items c.args.place c.in_ok-i.i (lengths None) c.index_mut-open.result.now c.in_ok-i.ensures.sized c.in_ok-i.ensures.found c.index_mut-open.ensures.value in
    let taken = ap length c.take_length-length.ensures.taken in
    sized_set c.ready.new.self.columns.items c.in_ok-i.i _ c.in_ok-i.ensures.sized (omega (arith, size, taken))

pub total-total-requires : goal.total-total-requires
total-total-requires c =
    let h = found_ready c.ready.new.self.columns.items c.args.place c.in_ok-i.i (lengths None) c.index_mut-open.result.now c.in_ok-i.ensures.found c.index_mut-open.ensures.value in c.take_length-length.ensures.kind ∙ h.0

pub returns-clause-leads : goal.returns-clause-leads
returns-clause-leads c = λ a s.
    let there = c.index_mut-open.result.now in
    let h = found_ready c.ready.new.self.columns.items c.args.place c.in_ok-i.i (lengths None) c.index_mut-open.result.now c.in_ok-i.ensures.found c.index_mut-open.ensures.value in
    let some = h.1 in
    let led = led_telling c.args.self.now c.ready.new.self _ c.args.place c.in_ok-i.i (lengths None) there
    (record { place = there.place; left = there.left - 1; column = c.take_length-length.new.self })
    (natural c.take_length-length.result) c.requires.place c.ready.ensures.below c.ready.ensures.below refl refl refl refl c.in_ok-i.ensures.found c.index_mut-open.ensures.value
    (record {
      place = refl;
      kind = c.take_length-length.ensures.kind;
      size = omega (arith, some);
      taken = c.take_length-length.ensures.taken;
      tallies = c.take_length-length.ensures.tallies;
    })
    c.in_ok-i.ensures.prepared a s in
    (led.0, led.1, led.2, led.3, c.total-total.ensures _ (c.take_length-length.ensures.tallies _ led.4), led.5)

pub invariant_of-self-clause-filed : goal.invariant_of-self-clause-filed
invariant_of-self-clause-filed c =
    let r = c.ready.new.self in
    let there = c.index_mut-open.result.now in
    filed_set (λ c. c.place) r.places.links.items r.columns.items c.in_ok-i.i there (record { place = there.place; left = there.left - 1; column = c.take_length-length.new.self })
    (ap (λ z. z.place) c.index_mut-open.ensures.value) r.filed
