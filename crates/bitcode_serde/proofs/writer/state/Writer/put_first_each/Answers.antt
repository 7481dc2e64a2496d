-- Values begin the column of their place.
use Rattle.std.proofs.Common.{inl, inr, ◌<◌, ◌++◌, map, length, refl, ap, sym, subst, ◌∙◌, arith}
use Rattle.std.proofs.lemmas.List.{length-map}
use Rattle.std.proofs.lemmas.Result.{err_from_is_err_and}
use Rattle.bitcode_untyped.specs.View.{datum_of}
use Rattle.bitcode_serde.specs.ReadColumns.{kind_of}
use Rattle.bitcode_serde.specs.Places.{places}
use Rattle.bitcode_serde.specs.Writing.{placed}
use Rattle.bitcode_serde.proofs.OutcomeLemmas.{when_ok}
use Rattle.bitcode_serde.proofs.WritingLemmas.{put_behind}
use Rattle.bitcode_serde.proofs.writer.state.Writer.put_first_each.Goals as goal

pub returns-clause-written : goal.returns-clause-written
returns-clause-written c =
    let old = c.args.self.now in
    let added = map datum_of c.args.values.now in
    let entries = c.in_ok-push_each.ensures.written ∙ ap (λ ds. ds ++ added) c.of-column.ensures.empty in
    let some : 0 < length c.args.values.now = grind (arith, c.is_empty.ensures, c.if-is_empty.false) in
    when_ok c.add.result
    (λ items. ap (λ z. map (placed (places z.items)) c.add.new.self.columns.items) c.add.ensures.below
    ∙ put_behind old.places.below.items old.columns.items c.add.new.self.columns.items c.args.place (kind_of c.args.kind) added
    (record { place = c.args.place; column = c.push_each.new.self }) old.places.apart c.requires.place old.inside c.requires.fresh items
    refl (c.in_ok-push_each.ensures.kind.0 ∙ ap kind_of c.of-column.ensures.kind) entries (subst (λ n. 0 < n) (sym (length-map c.args.values.now datum_of)) some))
    c.add.ensures.columns

pub returns-in_err-push_each-clause-refused : goal.returns-in_err-push_each-clause-refused
returns-in_err-push_each-clause-refused c =
    let y = err_from_is_err_and c.from_residual.result c.from_residual.ensures.1 in
    rw (y.1, y.2) (elim c.in_err-push_each.ensures.refused [
      | inl memory ↦ inl memory
      | inr others ↦ elim others [
        | inl away ↦ inr away
        | inr clash ↦ absurd (clash (sym (ap kind_of c.of-column.ensures.kind)))
      ]
    ])
