-- What was written is read back, where there is memory for it.
use Rattle.bitcode_derive.proofs.RoundTripLemmas.{read_equal, refused_for_memory}
use Rattle.bitcode_derive.proofs.laws.comes_back.Goals as goal

pub returns-in-Ok-clause-equal : goal.returns-in-Ok-clause-equal
returns-in-Ok-clause-equal g c =
    rw c.in-Ok.is (λ written short found.
    read_equal g.T.Shaped.data.lawful g.T.Shaped.data.makeable c.args.t.now c.in-Ok.u c.args.bytes.now c.told.ensures c.told-in-Ok.ensures written
    (short written.datum written.listing) found)

pub returns-in_default-clause-refused : goal.returns-in_default-clause-refused
returns-in_default-clause-refused g c =
    rw c.in_default.is (λ written short none.
    refused_for_memory g.T.Shaped.data.lawful c.args.t.now c.args.bytes.now c.told.ensures written short c.in_default.field-0.reason none)
