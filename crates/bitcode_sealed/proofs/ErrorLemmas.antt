-- What an error for want of memory is.
use Rattle.std.proofs.Common.{◌≡◌, ap}
use Rattle.bitcode_memory.specs.declared.error.Reason.{Reason}
use Rattle.bitcode_memory.specs.declared.error.Reason.TheVariants.{OutOfMemory}
use Rattle.bitcode_sealed.specs.declared.error.OpenError.{OpenError}
use Rattle.bitcode_sealed.specs.declared.error.OpenError.TheVariants.{NotSealed, CutOff, HeadDamaged, AnotherKind, AnotherVersion, TooLong, ValueDamaged, BytesLeftOver, Value}
use Rattle.bitcode_sealed.specs.ErrorClasses.{IsOutOfMemory}

pub of_memory : (fault : OpenError) → IsOutOfMemory fault → fault ≡ Value (record { reason = OutOfMemory })
of_memory (Value error) h = let of_reason : Reason → OpenError = λ r. Value (record { reason = r }) in ap of_reason h
of_memory NotSealed h = absurd h
of_memory (CutOff _ _) h = absurd h
of_memory HeadDamaged h = absurd h
of_memory (AnotherKind _ _) h = absurd h
of_memory (AnotherVersion _ _) h = absurd h
of_memory (TooLong _ _) h = absurd h
of_memory (ValueDamaged _ _) h = absurd h
of_memory (BytesLeftOver _) h = absurd h
