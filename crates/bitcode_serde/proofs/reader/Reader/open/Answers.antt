-- A column is opened where the machine opens one.
use Rattle.std.proofs.Common.{◌≢◌, ◌≤◌, ◌∙◌, refl, sym, subst, arith, length, map, inl, inr}
use Rattle.std.proofs.lemmas.Result.{err_from_is_err_and}
use Rattle.bitcode_memory.specs.declared.error.Reason.TheVariants.{OutOfMemory}
use Rattle.bitcode_untyped.specs.Machine.{State}
use Rattle.bitcode_serde.specs.Reading.{Stands, NothingAt}
use Rattle.bitcode_serde.specs.Places.{places, place_at}
use Rattle.bitcode_serde.specs.ReadColumns.{kind_of, left, IsColumnReason}
use Rattle.bitcode_serde.specs.Links.{AreFiled}
use Rattle.bitcode_serde.specs.declared.reader.OpenColumn.{OpenColumn}
use Rattle.bitcode_serde.proofs.FiledLemmas.{filed_same, filed_grown}
use Rattle.bitcode_serde.proofs.ColumnLemmas.{passed_on, entries_are}
use Rattle.bitcode_serde.proofs.ReadingLemmas.{refused_here, none_here, prepared_here, ready_pushed, sized_last}
use Rattle.bitcode_serde.proofs.reader.Reader.open.Goals as goal

pub returns-then-count-eq0-clause-refused : goal.returns-then-count-eq0-clause-refused
returns-then-count-eq0-clause-refused c =
    let r = c.args.self.now in
    passed_on (λ e. IsColumnReason e.reason × (e.reason ≢ OutOfMemory → (a : State) → Stands r a → NothingAt a (place_at (places r.places.below.items) c.args.place) (kind_of c.args.kind)))
    c.err.result _ _ c.err.ensures refl
    (tt, λ other. none_here r c.args.place c.requires.place c.requires.closed c.count_at-count.result c.count_at-count.ensures (kind_of c.args.kind) c.if-count-eq0.true)

pub returns-in_err-read-clause-refused : goal.returns-in_err-read-clause-refused
returns-in_err-read-clause-refused c =
    let r = c.args.self.now in
    let y = err_from_is_err_and c.from_residual-in_err-read.result c.from_residual-in_err-read.ensures.1 in
    passed_on (λ e. IsColumnReason e.reason × (e.reason ≢ OutOfMemory → (a : State) → Stands r a → NothingAt a (place_at (places r.places.below.items) c.args.place) (kind_of c.args.kind)))
    c.from_residual-in_err-read.result c.in_err-read.field-0.0 y.0 y.1 y.2
    (refused_here r c.args.place c.requires.place c.requires.closed c.count_at-count.result c.count_at-count.ensures (kind_of c.args.kind) c.in_err-read.field-0.0.reason
    c.in_err-read.ensures.refused)

pub returns-clause-found : goal.returns-clause-found
returns-clause-found c =
    ready_pushed c.args.self.now.columns.items c.push.new.self.items c.args.place c.len-last.result (kind_of c.args.kind) _ c.requires.closed
    c.in_ok-push.ensures.items (c.len-last.ensures ∙ c.push.new.self.ok.0) refl c.in_ok-read.ensures.kind (omega (arith, c.if-count-eq0.false))

pub returns-clause-prepared : goal.returns-clause-prepared
returns-clause-prepared c =
    prepared_here c.args.self.now c.args.place c.requires.place c.requires.closed c.count_at-count.result c.count_at-count.ensures
    _ (kind_of c.args.kind) (left c.in_ok-read.read.0) _ c.in_ok-read.ensures.read (c.set_column.ensures.below ∙ c.make_room.ensures.below) refl c.in_ok-push.ensures.items refl c.in_ok-read.ensures.kind refl refl
    c.in_ok-read.ensures.tallies (entries_are c.args.kind _ _ c.in_ok-read.ensures.read.spelled)
    (record { answer = c.in_ok-read.read.1; strict = refl; bytes = refl; written = c.both-self.ensures; judged = c.in_ok-read.ensures.judged })

pub returns-clause-sized : goal.returns-clause-sized
returns-clause-sized c =
    sized_last c.args.self.now.columns.items c.push.new.self.items _ c.in_ok-push.ensures.items c.requires.sized (sym c.in_ok-read.ensures.read.size)

pub invariant_of-self-in-Break-branch-3 : goal.invariant_of-self-in-Break-branch-3
invariant_of-self-in-Break-branch-3 c =
    let old = c.args.self.now in
    record {
      counted = subst (λ z. length z.items ≤ length old.counts.items) (sym c.make_room.ensures.below) old.counted;
      filed = subst (λ cs. AreFiled c.make_room.new.self.links.items (map (λ x. x.place) cs)) (sym c.in_err-push.ensures.items)
          (filed_same old.places.links.items c.make_room.new.self.links.items (map (λ x. x.place) old.columns.items) c.make_room.ensures.columns old.filed);
    }

pub invariant_of-self-2-clause-counted : goal.invariant_of-self-2-clause-counted
invariant_of-self-2-clause-counted c =
    subst (λ z. length z.items ≤ length c.args.self.now.counts.items) (sym (c.set_column.ensures.below ∙ c.make_room.ensures.below)) c.args.self.now.counted

pub invariant_of-self-2-clause-filed : goal.invariant_of-self-2-clause-filed
invariant_of-self-2-clause-filed c =
    let old = c.args.self.now in
    let new : OpenColumn = record { place = c.args.place; left = c.count_at-count.result; column = c.in_ok-read.read.0 } in
    let len = c.len-last.ensures in
    let more = c.in_ok-push.ensures.len in
    let size = old.columns.ok.0 in
    filed_grown (λ x. x.place) old.places.links.items c.set_column.new.self.links.items old.columns.items c.push.new.self.items new c.in_ok-push.ensures.items old.filed
    c.requires.closed c.args.place _ refl (omega (arith, len, more, size)) c.set_column.ensures.there
    (λ m. elim (c.set_column.ensures.others m) [ inl e ↦ inl (e ∙ c.make_room.ensures.columns m) | inr e ↦ inr e ])
