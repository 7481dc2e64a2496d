-- The fields of one datum after another are decoded, and the constructor is asked about them.
use Rattle.std.proofs.Common.{◌≡◌, true, false, ◌∙◌, subst, arith}
use Rattle.std.specs.Prelude.{IfOk}
use Rattle.bitcode_coder.specs.Coder.{TakesDatum}
use Rattle.bitcode_structs.proofs.CheckedLemmas.{taken, not_taken, takes_none, takes_more, takes_all, takes_broken, one_left}
use Rattle.bitcode_structs.proofs.checked.are_taken.Goals as goal

pub loop-i-init : goal.loop-i-init
loop-i-init g c = takes_none g.T.FromChecked.admits (g.D.HoldsData.held c.args.decoder.now)

pub decode-requires : goal.decode-requires
decode-requires g c =
    one_left g.T.FromChecked.admits c.loop-i._i c.args.count (g.D.HoldsData.held c.args.decoder.now) (g.D.HoldsData.held c.loop-i.decoder) c.loop-i.invariant c.requires
    c.loop-i-test.true

pub returns-then-is_none : goal.returns-then-is_none
returns-then-is_none g c =
    let old = g.D.HoldsData.held c.loop-i.decoder in
    let new = g.D.HoldsData.held c.decode.new.self in
    let made : TakesDatum g.P.Shaped.data.makes c.unwrap-fields.result old new =
    subst (λ r. IfOk r (λ t. TakesDatum g.P.Shaped.data.makes t old new)) c.unwrap-fields.ensures c.decode.ensures.made in
    takes_broken g.T.FromChecked.admits c.loop-i._i (g.D.HoldsData.held c.args.decoder.now) old new made.datum c.loop-i.invariant made.taken
    (g.met.T.FromChecked.admitted c.unwrap-fields.result made.datum c.told.ensures made.made
    ∙ not_taken (λ t. (g.T.FromChecked.takes c.unwrap-fields.result ≡ true) × (g.T.FromChecked.parts t ≡ c.unwrap-fields.result)) c.from_checked.result
    c.if-is_none.ensures c.from_checked.ensures)

pub loop-i-preserved : goal.loop-i-preserved
loop-i-preserved g c =
    let old = g.D.HoldsData.held c.loop-i.decoder in
    let new = g.D.HoldsData.held c.decode.new.self in
    let made : TakesDatum g.P.Shaped.data.makes c.unwrap-fields.result old new =
    subst (λ r. IfOk r (λ t. TakesDatum g.P.Shaped.data.makes t old new)) c.unwrap-fields.ensures c.decode.ensures.made in
    takes_more g.T.FromChecked.admits c.loop-i._i (g.D.HoldsData.held c.args.decoder.now) old new made.datum c.loop-i.invariant made.taken
    (g.met.T.FromChecked.admitted c.unwrap-fields.result made.datum c.told.ensures made.made
    ∙ taken (g.T.FromChecked.takes c.unwrap-fields.result ≡ false) (λ t. g.T.FromChecked.parts t ≡ c.unwrap-fields.result) c.from_checked.result
    c.if-is_none.ensures c.from_checked.ensures)

pub returns : goal.returns
returns g c =
    takes_all g.T.FromChecked.admits c.loop-i._i c.args.count (g.D.HoldsData.held c.args.decoder.now) (g.D.HoldsData.held c.loop-i.decoder) c.loop-i.invariant c.requires
    (omega (arith, c.loop-i-test.false))
