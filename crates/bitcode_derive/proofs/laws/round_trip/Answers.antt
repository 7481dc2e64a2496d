-- What was written is read back.
use Rattle.bitcode_derive.proofs.RoundTripLemmas.{written_spells, read_equal}
use Rattle.bitcode_derive.proofs.laws.round_trip.Goals as goal

pub returns-clause-spelled : goal.returns-clause-spelled
returns-clause-spelled g c = written_spells g.T.Shaped.data.lawful c.args.t.now c.args.bytes.now c.told.ensures

pub returns-clause-equal : goal.returns-clause-equal
returns-clause-equal g c =
    read_equal g.T.Shaped.data.lawful g.T.Shaped.data.makeable c.args.t.now c.args.u.now c.args.bytes.now c.told.ensures c.told-2.ensures
