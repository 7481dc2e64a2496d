use Rattle.std.proofs.Common.{◌-◌, ◌*◌, ◌/◌, length, arith}
use Rattle.bitcode_memory.proofs.PlacesLemmas.{both_written}
use Rattle.bitcode_memory.proofs.fast.memory.Places.write_long.Goals as goal

pub returns-clause-items : goal.returns-clause-items
returns-clause-items g c =
    let back = rw c.unwrap.ensures at c.last_chunk.ensures.cases in
    both_written _ _ _ c.args.src.now _ _ c.args.index (length c.args.src.now - 32) (length c.args.src.now / 32 * 32)
    c.split_at.ensures.front back.1.same (omega arith) (omega arith) (omega arith) c.write_each.ensures.items c.write_each-2.ensures.items
