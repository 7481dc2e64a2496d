-- The items are all that was written, or none.
use Rattle.std.proofs.Common.{arith}
use Rattle.bitcode_memory.proofs.PlacesLemmas.{written_or}
use Rattle.bitcode_memory.proofs.fast.memory.Places.write_or.Goals as goal

pub returns-clause-items : goal.returns-clause-items
returns-clause-items g c =
    written_or c.args.self.now.items c.write_each.new.self.items _ c.args.src.now c.args.index g.row.N c.requires.size c.first_of.ensures
    (omega (arith, c.requires.places)) c.write_each.ensures.items
