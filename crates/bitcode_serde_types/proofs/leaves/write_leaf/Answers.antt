-- The value that holds the leaf is an entry of the column of its case.
use Rattle.bitcode_serde.proofs.LeafLemmas.{has_column}
use Rattle.bitcode_serde_types.proofs.LeafWritten.{leaf_put}
use Rattle.bitcode_serde_types.proofs.leaves.write_leaf.Goals as goal

pub put_one-put-requires : goal.put_one-put-requires
put_one-put-requires g c = record { place = c.requires; values = rw c.column.ensures (has_column g.T.Case.node g.T.Case.kind g.met.T.Case.laws.leaf).values }

pub returns : goal.returns
returns g c =
    rw (← c.into_value-value.ensures, ← c.column.ensures)
    (leaf_put c.column.result c.into_value-value.result c.args.writer.now c.put_one-put.new.self c.args.place c.put_one-put.result
    (rw (c.column.ensures, c.into_value-value.ensures) (g.met.T.Case.laws.of_case c.args.leaf.now)) c.put_one-put.ensures.below c.put_one-put.ensures.written
    c.put_one-put.ensures.entries c.put_one-put.ensures.refused)
