-- What was written is what is read strictly, where there is memory for it.
use Rattle.bitcode_derive.proofs.StrictLemmas.{strictly_equal, strictly_refused_for_memory}
use Rattle.bitcode_derive.proofs.laws.comes_back_strictly.Goals as goal

pub returns-in-Ok-clause-equal : goal.returns-in-Ok-clause-equal
returns-in-Ok-clause-equal g c =
    rw c.in-Ok.is (λ written short read.
    strictly_equal g.T.Shaped.data.lawful c.args.t.now c.args.bytes.now c.told.ensures short written g.T.Shaped.data.makeable c.in-Ok.found c.told-in-Ok.ensures read)

pub returns-in_default-clause-refused : goal.returns-in_default-clause-refused
returns-in_default-clause-refused g c =
    rw c.in_default.is (λ written short refused.
    strictly_refused_for_memory g.T.Shaped.data.lawful c.args.t.now c.args.bytes.now c.told.ensures short written c.in_default.field-0.reason refused)
