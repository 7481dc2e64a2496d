-- The value at which the gathering stops is of another case.
use Rattle.bitcode_serde.proofs.EntryLemmas.{found_entry}
use Rattle.bitcode_serde.proofs.JoiningLemmas.{other_at}
use Rattle.bitcode_serde.proofs.write_column.gather.Goals as goal

pub returns-in-None-clause-gathered : goal.returns-in-None-clause-gathered
returns-in-None-clause-gathered g c =
    other_at g.T.Case.kind c.args.values.now c.loop-i.i c.index-values-i.result
    (found_entry c.args.values.now c.loop-i.i c.index-values-i.result c.loop-i-test.true c.index-values-i.is) c.in-None.ensures.none
