-- At most one reason, apart from a failed allocation, is named.
use Rattle.std.specs.Prelude.{◌≡◌, ◌≢◌}
use Rattle.bitcode_memory.specs.declared.error.Reason.{Reason}
use Rattle.bitcode_memory.specs.declared.error.Reason.TheVariants.{OutOfMemory}

abbrev pub NamesAtMostOne : (Reason → Type 0) → Type 0
NamesAtMostOne Fault = (first second : Reason) → first ≢ OutOfMemory → second ≢ OutOfMemory → Fault first → Fault second → first ≡ second
