use denote.RattleType.{RattleType}
use denote.Param.Send.{IsSync}
use Rattle.core.specs.declared.alloc.Allocator.{Ghosts}
use Rattle.bitcode_memory.proofs.MemoryLentLemmas.{Lease-sync}
use Rattle.bitcode_memory.specs.contracts.fast.memory.Lease.{the_row}

pub sync : (R A : RattleType) (g : Ghosts A.Denot) → IsSync (the_row R A g)
sync = Lease-sync
