-- Each integer stands for itself.
use Rattle.bitcode_memory.specs.Fast.{fast_items}
use Rattle.bitcode_ints.proofs.PushedIntLemmas.{pushes_themselves}
use Rattle.bitcode_ints.proofs.int.push_themselves.Goals as goal

pub returns-clause-written : goal.returns-clause-written
returns-clause-written g c =
    pushes_themselves g.I.ColumnInt.number c.args.values.now (fast_items c.args.ints.now) (fast_items c.extend_unchecked.new.self) c.extend_unchecked.ensures.items
