-- The node is the leaf of its column.
use Rattle.bitcode_serde.proofs.LeafLemmas.{has_column}
use Rattle.bitcode_serde.proofs.column.kind_at.Goals as goal

pub returns : goal.returns
returns g c = rw (c.requires, c.column.ensures) (has_column g.T.Case.node g.T.Case.kind g.met.T.Case.laws.leaf)
