-- What is sealed behind nothing is the sealed value.
use Rattle.bitcode_sealed.proofs.SealingLemmas.{sealed_alone}
use Rattle.bitcode_sealed.proofs.values.seal.Goals as goal

pub returns-clause-written : goal.returns-clause-written
returns-clause-written g c =
    sealed_alone g.T.Shaped.data.lists g.T.Shaped.data.shape c.args.label c.args.t.now c.new-bytes.result.items c.seal_into.new.out.items c.new-bytes.ensures.items
    c.in_ok-seal_into.ensures.written
