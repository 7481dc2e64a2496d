use denote.RattleType.{RattleType}
use denote.Param.Send.{IsSync}
use Rattle.bitcode_memory.proofs.MemoryLentLemmas.{Places-sync}
use Rattle.bitcode_memory.specs.contracts.fast.memory.Places.{the_row}

pub sync : (R : RattleType) → IsSync R → IsSync (the_row R)
sync = Places-sync
