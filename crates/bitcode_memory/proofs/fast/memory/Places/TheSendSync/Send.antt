use denote.RattleType.{RattleType}
use denote.Param.Send.{IsSend}
use Rattle.bitcode_memory.proofs.MemoryLentLemmas.{Places-send}
use Rattle.bitcode_memory.specs.contracts.fast.memory.Places.{the_row}

pub send : (R : RattleType) → IsSend R → IsSend (the_row R)
send = Places-send
