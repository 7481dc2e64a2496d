-- A length is a byte, or an escape and then the length.
use Rattle.std.proofs.Common.{ap, ◌∙◌, ◌++◌, ◌∷◌, [], pos, append_assoc, arith}
use Rattle.std.proofs.lemmas.Result.{on_ok_weaker}
use Rattle.bitcode_columns.specs.IntColumn.{int_text}
use Rattle.bitcode_coder.specs.LengthColumn.{escape}
use Rattle.bitcode_coder.proofs.OneValueLemmas.{one_short, one_large}
use Rattle.bitcode_coder.proofs.one.write_length.Goals as goal

pub returns-then-length-clause-written : goal.returns-then-length-clause-written
returns-then-length-clause-written c =
    c.in_ok-push.ensures.items ∙ ap (λ bytes. c.args.out.now.items ++ bytes) (one_short c.args.length (omega (arith, c.if-length.true)))

pub returns-clause-written : goal.returns-clause-written
returns-clause-written c =
    let large = int_text 8 (pos c.args.length ∷ []) in
    on_ok_weaker c.pack_ints.result (λ whole.
    whole
    ∙ (ap (λ front. front ++ large) c.in_ok-push-2.ensures.items
    ∙ (append_assoc c.args.out.now.items (escape ∷ []) large
    ∙ ap (λ bytes. c.args.out.now.items ++ bytes) (one_large c.args.length (omega (arith, c.if-length.false)))))) c.pack_ints.ensures.written
