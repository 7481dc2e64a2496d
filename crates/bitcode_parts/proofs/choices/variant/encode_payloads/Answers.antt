-- Where no room can be made for so many values whatever they are, none can be made for these.
use Rattle.std.proofs.Common.{map, length, subst, sym}
use Rattle.std.proofs.lemmas.List.{length-map}
use Rattle.std.proofs.lemmas.List.Elements.{All-map}
use Rattle.std.proofs.lemmas.Result.{err_from_is_err_and}
use Rattle.bitcode_coder.proofs.RefusalLemmas.{refusal_weaker}
use Rattle.bitcode_parts.proofs.ListWritingLemmas.{overflows_surely}
use Rattle.bitcode_parts.proofs.choices.variant.encode_payloads.Goals as goal

pub returns-in_err-reserve-clause-refused : goal.returns-in_err-reserve-clause-refused
returns-in_err-reserve-clause-refused g c =
    let refused = err_from_is_err_and c.from_residual.result c.from_residual.ensures.1 in
    let several = c.args.several.now in
    let old = g.E.HoldsColumns.columns c.args.encoder.now in
    rw (refused.1, refused.2) (
    refusal_weaker _ (λ surely.
    overflows_surely g.T.Shaped.data.lists g.T.Shaped.data.shape (map (λ t. t.now) several) g.T.Shaped.data.is_value g.T.Shaped.data.same g.T.Shaped.data.in_order g.T.Shaped.data.lawful
    (All-map g.T.Shaped.data.is_value (λ t. t.now) several c.told_behind.ensures) old
    (g.met.E.EncodeMany.surely c.args.encoder.now (length (map (λ t. t.now) several))
    (subst (λ n. g.E.HoldsColumns.surely_overflows c.args.encoder.now n) (sym (length-map several (λ t. t.now))) surely)))
    c.in_err-reserve.ensures.refused
    )
