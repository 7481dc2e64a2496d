use Rattle.std.proofs.Common.{◌≡◌, ◌∙◌, ◌++◌, ◌||◌, ◌&&◌, eqb, map, refl, ap, sym, subst, true, false, inl, inr, arith}
use Rattle.std.proofs.lemmas.Bool.{true≢false}
use Rattle.std.proofs.lemmas.List.{length-map}
use Rattle.std.proofs.lemmas.Result.{on_ok_weaker}
use Rattle.bitcode_int_columns.proofs.AppendLemmas.{on_ok_both, int_text_bytes, int_text_bare, int_text_tagged, raw_residues, bare_test}
use Rattle.bitcode_int_columns.proofs.RoomLemmas.{numbers_width_bytes, numbers_width_tagged}
use Rattle.bitcode_int_columns.proofs.pack_ints.append.append_ints.Goals as goal

pub returns-then-width-eq1-clause-written : goal.returns-then-width-eq1-clause-written
returns-then-width-eq1-clause-written g c =
    on_ok_weaker c.write_column.result
    (λ written. written ∙ ap (λ text. c.args.out.now.items ++ text) (sym (int_text_bytes g.T.Int.width (map g.T.Int.number c.args.entries.now) (sym c.width.ensures ∙ c.if-width-eq1.true))))
    c.write_column.ensures.written

pub returns-then-is_bare-clause-written : goal.returns-then-is_bare-clause-written
returns-then-is_bare-clause-written g c =
    on_ok_both c.write_whole.result
    (λ written numbers. written ∙ ap (λ text. c.args.out.now.items ++ text)
    (raw_residues g.T.Int.width g.T.Int.width 0 g.T.Int.signed g.T.Int.number c.args.entries.now refl refl numbers
    ∙ sym (int_text_bare g.T.Int.width (map g.T.Int.number c.args.entries.now) (λ one. c.if-width-eq1.false (c.width.ensures ∙ one))
    (bare_test g.T.Int.number c.args.entries.now g.T.Int.width _ _ true c.width-2.ensures c.is_bare.ensures c.if-is_bare.true))))
    c.write_whole.ensures.written c.write_whole.ensures.in_range

pub returns-clause-written : goal.returns-clause-written
returns-clause-written g c =
    on_ok_weaker c.append_tagged.result
    (λ written. written ∙ ap (λ text. c.args.out.now.items ++ text)
    (sym (int_text_tagged g.T.Int.width (map g.T.Int.number c.args.entries.now) (λ one. c.if-width-eq1.false (c.width.ensures ∙ one))
    (bare_test g.T.Int.number c.args.entries.now g.T.Int.width _ _ false c.width-2.ensures c.is_bare.ensures c.if-is_bare.false))))
    c.append_tagged.ensures.written

pub returns-then-width-eq1-clause-succeeds : goal.returns-then-width-eq1-clause-succeeds
returns-then-width-eq1-clause-succeeds g c scratch room = elim scratch [
  | inl none ↦ c.write_column.ensures.none (sym (length-map c.args.entries.now g.T.Int.number) ∙ none) (omega (arith, room))
  | inr more ↦ absurd (more (numbers_width_bytes g.T.Int.width _ (sym c.width.ensures ∙ c.if-width-eq1.true)))
]

pub returns-clause-succeeds : goal.returns-clause-succeeds
returns-clause-succeeds g c scratch room =
    let bare =
    bare_test g.T.Int.number c.args.entries.now g.T.Int.width _ _ false c.width-2.ensures c.is_bare.ensures c.if-is_bare.false in
    elim scratch [
      | inl none ↦ absurd (true≢false (subst (λ n. (eqb n 0 || (eqb g.T.Int.width 2 && eqb n 1)) ≡ false) none bare))
      | inr more ↦ c.append_tagged.ensures.succeeds
          (λ one. more (numbers_width_tagged g.T.Int.number c.args.entries.now g.T.Int.width (λ w. c.if-width-eq1.false (c.width.ensures ∙ w)) bare ∙ one)) room
    ]
