-- A text begins the column of its place.
use Rattle.std.proofs.Common.{None, inl, inr, ◌++◌, [], ◌∷◌, map, refl, ap, sym, ◌∙◌, arith}
use Rattle.std.proofs.lemmas.Result.{err_from_is_err_and}
use Rattle.bitcode_serde.specs.Places.{places}
use Rattle.bitcode_serde.specs.ReadColumns.{kind_of}
use Rattle.bitcode_serde.specs.Writing.{placed}
use Rattle.bitcode_coder.specs.Columns.{texts}
use Rattle.bitcode_shapes.specs.Datum.{text}
use Rattle.bitcode_serde.proofs.OutcomeLemmas.{when_ok}
use Rattle.bitcode_serde.proofs.WritingLemmas.{put_behind}
use Rattle.bitcode_serde.proofs.writer.state.Writer.put_first_text.Goals as goal

pub returns-clause-written : goal.returns-clause-written
returns-clause-written c =
    let old = c.args.self.now in
    let entries = c.in_ok-push_text.ensures.written ∙ ap (λ ds. ds ++ text c.args.words.now ∷ []) c.of-column.ensures.empty in
    when_ok c.add.result
    (λ items. ap (λ z. map (placed (places z.items)) c.add.new.self.columns.items) c.add.ensures.below
    ∙ put_behind old.places.below.items old.columns.items c.add.new.self.columns.items c.args.place (texts None) (text c.args.words.now ∷ [])
    (record { place = c.args.place; column = c.push_text.new.self }) old.places.apart c.requires.place old.inside c.requires.fresh items
    refl (c.in_ok-push_text.ensures.kind.0 ∙ ap kind_of c.of-column.ensures.kind) entries (omega arith))
    c.add.ensures.columns

pub returns-in_err-push_text-clause-refused : goal.returns-in_err-push_text-clause-refused
returns-in_err-push_text-clause-refused c =
    let y = err_from_is_err_and c.from_residual.result c.from_residual.ensures.1 in
    rw (y.1, y.2) (elim c.in_err-push_text.ensures.refused [
      | inl memory ↦ memory
      | inr clash ↦ absurd (clash (sym (ap kind_of c.of-column.ensures.kind)))
    ])
