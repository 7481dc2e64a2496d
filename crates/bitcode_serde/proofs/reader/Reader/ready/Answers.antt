-- A column is found, or opened.
use Rattle.std.proofs.Common.{◌≢◌, refl, sym, ◌∙◌, arith, inl, inr}
use Rattle.bitcode_memory.specs.declared.error.Reason.TheVariants.{OutOfMemory}
use Rattle.bitcode_untyped.specs.Machine.{State}
use Rattle.bitcode_serde.specs.Reading.{Stands, NothingAt}
use Rattle.bitcode_serde.specs.Places.{places, place_at}
use Rattle.bitcode_serde.specs.ReadColumns.{kind_of, IsColumnReason}
use Rattle.bitcode_serde.proofs.ColumnLemmas.{passed_on}
use Rattle.bitcode_serde.proofs.ReadingLemmas.{first_at, ready_at, stuck_here}
use Rattle.bitcode_serde.proofs.reader.Reader.ready.Goals as goal

pub returns-then-not-is-clause-refused : goal.returns-then-not-is-clause-refused
returns-then-not-is-clause-refused c =
    let r = c.args.self.now in
    let first = first_at c.args.self.now.columns.items c.args.place c.in-Some.i c.in-Some.ensures.first c.in-Some.ensures.some in
    passed_on (λ e. IsColumnReason e.reason × (e.reason ≢ OutOfMemory → (a : State) → Stands r a → NothingAt a (place_at (places r.places.below.items) c.args.place) (kind_of c.args.kind)))
    c.err.result _ _ c.err.ensures refl (
      tt,
      λ other. stuck_here r c.args.place c.in-Some.i (kind_of c.args.kind) c.index-open.result.now c.requires.place first c.index-open.ensures
          (inl (λ e. c.if-not-is.ensures (c.kind.ensures ∙ e))),
    )

pub returns-then-open-eq0-clause-refused : goal.returns-then-open-eq0-clause-refused
returns-then-open-eq0-clause-refused c =
    let r = c.args.self.now in
    let first = first_at c.args.self.now.columns.items c.args.place c.in-Some.i c.in-Some.ensures.first c.in-Some.ensures.some in
    passed_on (λ e. IsColumnReason e.reason × (e.reason ≢ OutOfMemory → (a : State) → Stands r a → NothingAt a (place_at (places r.places.below.items) c.args.place) (kind_of c.args.kind)))
    c.err-then-open-eq0.result _ _ c.err-then-open-eq0.ensures refl
    (tt, λ other. stuck_here r c.args.place c.in-Some.i (kind_of c.args.kind) c.index-open.result.now c.requires.place first c.index-open.ensures (inr c.if-open-eq0.true))

pub returns-else-open-eq0-clause-found : goal.returns-else-open-eq0-clause-found
returns-else-open-eq0-clause-found c =
    let first = first_at c.args.self.now.columns.items c.args.place c.in-Some.i c.in-Some.ensures.first c.in-Some.ensures.some in
    ready_at c.args.self.now.columns.items c.args.place c.in-Some.i (kind_of c.args.kind) c.index-open.result.now first c.index-open.ensures
    (sym c.kind.ensures ∙ c.if-not-is.ensures) (let h = c.if-open-eq0.false in omega (arith, h))
