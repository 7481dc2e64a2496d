-- What was written is read back as the same value, and `==` tells that it is the same.
use Rattle.std.proofs.Common.{ap, ◌∙◌}
use Rattle.bitcode_derive.proofs.RoundTripLemmas.{read_equal}
use Rattle.bitcode_derive.proofs.laws.comes_back_equal.Goals as goal

pub returns-in-Ok : goal.returns-in-Ok
returns-in-Ok g c =
    rw c.in-Ok.is (λ written short found.
    ap (λ eq. eq c.args.t.now c.in-Ok.u) g.met.T.Key.equal
    ∙ g.T.Shaped.data.tells c.args.t.now c.in-Ok.u c.told.ensures c.told-in-Ok.ensures
    (read_equal g.T.Shaped.data.lawful g.T.Shaped.data.makeable c.args.t.now c.in-Ok.u c.args.bytes.now c.told.ensures c.told-in-Ok.ensures written
    (short written.datum written.listing) found))
