-- What was written in few bytes is read back, where there is memory for it.
use Rattle.bitcode_derive.proofs.RoundTripLemmas.{read_equal, spelled_or_memory}
use Rattle.bitcode_derive.proofs.ShortLengthLemmas.{written_short}
use Rattle.bitcode_derive.proofs.laws.comes_back_in_bytes.Goals as goal

pub returns-in-Ok-clause-equal : goal.returns-in-Ok-clause-equal
returns-in-Ok-clause-equal g c =
    rw c.in-Ok.is (λ have written few found.
    read_equal g.T.Shaped.data.lawful g.T.Shaped.data.makeable c.args.t.now c.in-Ok.read c.args.bytes.now c.told.ensures c.told-in-Ok.ensures written
    (written_short g.T.Shaped.data.lawful c.args.t.now c.args.bytes.now c.told.ensures have written few) found)

pub returns-in_default-clause-refused : goal.returns-in_default-clause-refused
returns-in_default-clause-refused g c =
    rw c.in_default.is (λ have written few none.
    spelled_or_memory g.T.Shaped.data.lawful c.args.t.now c.args.bytes.now c.told.ensures written
    (written_short g.T.Shaped.data.lawful c.args.t.now c.args.bytes.now c.told.ensures have written few) c.in_default.field-0.reason none)
