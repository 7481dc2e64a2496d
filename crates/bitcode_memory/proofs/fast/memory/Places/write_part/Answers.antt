-- Where others were written, what lies before them is what was there.
use Rattle.std.proofs.Common.{arith}
use Rattle.bitcode_memory.proofs.PlacesLemmas.{front_kept}
use Rattle.bitcode_memory.proofs.fast.memory.Places.write_part.Goals as goal

pub returns-then-src-clause-items : goal.returns-then-src-clause-items
returns-then-src-clause-items g c =
    front_kept c.args.self.now.items c.write_each.new.self.items _ c.args.index _ (omega (arith, c.requires.places)) c.write_each.ensures.items
