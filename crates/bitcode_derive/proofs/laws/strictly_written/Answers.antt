-- The texts of the one listing.
use Rattle.bitcode_derive.proofs.StrictLemmas.{strictly_written, strictly_read}
use Rattle.bitcode_derive.proofs.laws.strictly_written.Goals as goal

pub returns-clause-written : goal.returns-clause-written
returns-clause-written g c = λ o s. strictly_written g.T.Shaped.data.same_data o c.args.t.now c.args.bytes.now c.told.ensures s

pub returns-clause-read : goal.returns-clause-read
returns-clause-read g c = λ o short e.
    strictly_read g.T.Shaped.data.lawful c.args.t.now c.args.bytes.now c.told.ensures short e g.T.Shaped.data.same_data o
