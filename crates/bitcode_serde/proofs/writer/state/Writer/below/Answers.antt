-- A step down to a place that was met, or to a new one.
use Rattle.std.proofs.Common.{◌≡◌, ◌≤◌, All, length, map, ap, arith}
use Rattle.bitcode_serde.specs.Places.{IsGrown}
use Rattle.bitcode_serde.specs.declared.places.Below.{Below}
use Rattle.bitcode_serde.proofs.FiledLemmas.{filed_same}
use Rattle.bitcode_serde.proofs.OutcomeLemmas.{told_ok, either_way}
use Rattle.bitcode_serde.proofs.PlaceLemmas.{grown_size, grown_places}
use Rattle.bitcode_serde.proofs.WritingLemmas.{placed_grown, all_within}
use Rattle.bitcode_serde.proofs.writer.state.Writer.below.Goals as goal

pub invariant_of-self-clause-inside : goal.invariant_of-self-clause-inside
invariant_of-self-clause-inside c =
    let old = c.args.self.now in
    let new : Below = record { above = c.args.place; step = c.args.step } in
    let bs = old.places.below.items in
    let more = c.below.new.self.below.items in
    either_way (λ n. IsGrown bs new more n) (more ≡ bs) (All (λ c. c.place ≤ length more) old.columns.items) c.below.result
    (λ n g. all_within old.columns.items (length bs) (length more) (grown_size bs more new n g) old.inside)
    (λ e. let l = ap length e in all_within old.columns.items (length bs) (length more) (omega (arith, l)) old.inside)
    c.below.ensures.grown c.below.ensures.unchanged

pub invariant_of-self-clause-filed : goal.invariant_of-self-clause-filed
invariant_of-self-clause-filed c =
    filed_same c.args.self.now.places.links.items c.below.new.self.links.items (map (λ c. c.place) c.args.self.now.columns.items) c.below.ensures.columns c.args.self.now.filed

pub returns-clause-grows : goal.returns-clause-grows
returns-clause-grows c =
    let old = c.args.self.now in
    let new : Below = record { above = c.args.place; step = c.args.step } in
    let bs = old.places.below.items in
    let more = c.below.new.self.below.items in
    told_ok (λ n. IsGrown bs new more n) _ c.below.result
    (λ n g. let p = grown_places bs more new n g in record { more = p.0; places = p.1; size = grown_size bs more new n g }) c.below.ensures.grown

pub returns-clause-written : goal.returns-clause-written
returns-clause-written c =
    let old = c.args.self.now in
    let new : Below = record { above = c.args.place; step = c.args.step } in
    told_ok (λ n. IsGrown old.places.below.items new c.below.new.self.below.items n) _ c.below.result
    (λ n g. placed_grown old.places.below.items c.below.new.self.below.items new n old.columns.items g old.inside) c.below.ensures.grown
