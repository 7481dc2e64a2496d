-- A value has a listing, with which it overflows where any value does. What was not written directly left no entries.
use Rattle.std.proofs.Common.{◌∙◌, subst, sym}
use Rattle.std.proofs.lemmas.Result.{err_from_is_err_and}
use Rattle.bitcode_coder.specs.Coder.{SurelyOverflows}
use Rattle.bitcode_coder.proofs.RefusalLemmas.{refusal_weaker, surely_listing}
use Rattle.bitcode_coder.proofs.one.write_one.Goals as goal

pub returns-in_err-reserve-clause-refused : goal.returns-in_err-reserve-clause-refused
returns-in_err-reserve-clause-refused g c =
    let p = err_from_is_err_and c.from_residual-in_err-reserve.result c.from_residual-in_err-reserve.ensures.1 in
    let l = g.T.Shaped.data.lawful.listed c.args.t.now c.told.ensures in
    let same = c.in_ok-write_directly.ensures.empty ∙ sym c.requires in
    rw (p.1, p.2) (
    refusal_weaker _ (λ over.
    surely_listing g.T.Shaped.data.lists g.T.Shaped.data.shape c.args.t.now (g.E.HoldsColumns.columns c.args.encoder.now) l.0 l.1
    (g.T.Shaped.data.lawful.of_shape c.args.t.now l.0 c.told.ensures l.1)
    (subst (λ old. SurelyOverflows g.T.Shaped.data.shape old 1) same (g.met.E.Encoder.surely c.write_directly.new.self 1 over))) c.in_err-reserve.ensures.refused
    )
