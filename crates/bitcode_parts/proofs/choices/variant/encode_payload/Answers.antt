-- Where no room can be made for a value whatever it is, none can be made for this one.
use Rattle.std.proofs.lemmas.Result.{err_from_is_err_and}
use Rattle.bitcode_coder.proofs.RefusalLemmas.{refusal_weaker}
use Rattle.bitcode_parts.proofs.ChoiceWritingLemmas.{overflows_surely}
use Rattle.bitcode_parts.proofs.choices.variant.encode_payload.Goals as goal

pub returns-in_err-reserve-clause-refused : goal.returns-in_err-reserve-clause-refused
returns-in_err-reserve-clause-refused g c =
    let refused = err_from_is_err_and c.from_residual.result c.from_residual.ensures.1 in
    let listed = g.T.Shaped.data.lawful.listed c.args.t.now c.told.ensures in
    let of_shape = g.T.Shaped.data.lawful.of_shape c.args.t.now listed.0 c.told.ensures listed.1 in
    rw (refused.1, refused.2) (
    refusal_weaker _ (λ surely. record {
      datum = listed.0;
      listing = listed.1;
      overflows = overflows_surely g.T.Shaped.data.shape (g.E.HoldsColumns.columns c.args.encoder.now) listed.0 of_shape (g.met.E.Encoder.surely c.args.encoder.now 1 surely);
    }) c.in_err-reserve.ensures.refused
    )
