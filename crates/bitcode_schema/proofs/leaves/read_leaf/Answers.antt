-- The decoder reads the data.
use Rattle.bitcode_schema.proofs.LeafLemmas.{reads_leaf}
use Rattle.bitcode_schema.proofs.leaves.read_leaf.Goals as goal

pub returns-clause-read : goal.returns-clause-read
returns-clause-read g c = reads_leaf g.D.HoldsData.shape c.args.k c.args.strict _ _ _ c.read.result c.read.ensures.read c.read.ensures.judged
