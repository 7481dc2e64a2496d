use Rattle.std.proofs.Common.{map, sym, subst, MatchBool}
use Rattle.std.proofs.lemmas.List.{length-map}
use Rattle.bitcode_columns.specs.WrittenDigits.{UsesNoMore}
use Rattle.bitcode_columns.proofs.StrictLemmas.{judge, text_iff}
use Rattle.bitcode_columns.proofs.strict.is_digits_text.Goals as goal

pub returns : goal.returns
returns g c =
    let digits = map g.T.Digit.digit_of c.args.entries.now in
    judge c.use_no_more.result
    (subst (λ n. MatchBool c.use_no_more.result (UsesNoMore c.args.base n c.args.packed.now) (UsesNoMore c.args.base n c.args.packed.now → ⊥))
    (sym (length-map c.args.entries.now g.T.Digit.digit_of)) c.use_no_more.ensures)
    (text_iff c.args.base c.args.packed.now digits c.requires)
