-- What an error tells of the bytes: that they are damaged or incomplete, that memory ran out, or neither, and then the
-- program does not accept what was sealed.
use Rattle.std.specs.Prelude.{◌≡◌}
use Rattle.bitcode_memory.specs.declared.error.Reason.TheVariants.{OutOfMemory}
use Rattle.bitcode_sealed.specs.declared.error.OpenError.{OpenError}
use Rattle.bitcode_sealed.specs.declared.error.OpenError.TheVariants.{NotSealed, CutOff, HeadDamaged, ValueDamaged, Value}

abbrev pub IsDamage : OpenError → Type 0
IsDamage NotSealed = Unit {0}
IsDamage (CutOff _ _) = Unit {0}
IsDamage HeadDamaged = Unit {0}
IsDamage (ValueDamaged _ _) = Unit {0}
IsDamage _ = ⊥

abbrev pub IsOutOfMemory : OpenError → Type 0
IsOutOfMemory (Value error) = error.reason ≡ OutOfMemory
IsOutOfMemory _ = ⊥
