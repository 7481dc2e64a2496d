-- One datum makes equal values.
use Rattle.bitcode_derive.proofs.RoundTripLemmas.{read_once}
use Rattle.bitcode_derive.proofs.laws.one_value.Goals as goal

pub returns : goal.returns
returns g c = read_once g.T.Shaped.data.makeable c.args.t.now c.args.u.now c.args.bytes.now c.told.ensures c.told-2.ensures
