use Rattle.std.proofs.Common.{◌-◌, length, arith}
use Rattle.bitcode_memory.proofs.PlacesLemmas.{both_written}
use Rattle.bitcode_memory.proofs.fast.memory.Places.write_ends.Goals as goal

pub returns-clause-items : goal.returns-clause-items
returns-clause-items g c =
    let front = rw c.unwrap.ensures at c.first_chunk.ensures.cases in
    let back = rw c.unwrap-2.ensures at c.last_chunk.ensures.cases in
    both_written _ _ _ c.args.src.now _ _ c.args.index (length c.args.src.now - g.row.N) g.row.N
    front.same back.1.same (omega arith) (omega arith) (omega arith) c.write_each.ensures.items c.write_each-2.ensures.items
