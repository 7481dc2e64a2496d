-- One listing stands for all of them.
use Rattle.bitcode_derive.proofs.ArrayCountLemmas.{counts_fit}
use Rattle.bitcode_derive.proofs.laws.overflows_exactly.Goals as goal

pub returns-clause-written : goal.returns-clause-written
returns-clause-written g c written d listing =
    counts_fit g.T.Shaped.data.same_arrays c.args.t.now written.datum d c.told.ensures written.listing listing written.counts

pub returns-clause-refused : goal.returns-clause-refused
returns-clause-refused g c long d listing fits =
    long.overflows (counts_fit g.T.Shaped.data.same_arrays c.args.t.now d long.datum c.told.ensures listing long.listing fits)
