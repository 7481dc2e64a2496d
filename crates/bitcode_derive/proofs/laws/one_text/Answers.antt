-- One listing is written as one text.
use Rattle.bitcode_derive.proofs.RoundTripLemmas.{written_once}
use Rattle.bitcode_derive.proofs.laws.one_text.Goals as goal

pub returns : goal.returns
returns g c ordered = written_once g.T.Shaped.data.lawful ordered c.args.t.now c.args.bytes.now c.args.again.now c.told.ensures
