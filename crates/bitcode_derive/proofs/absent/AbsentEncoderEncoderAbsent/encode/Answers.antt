-- There is no value to write.
use Rattle.bitcode_shapes.specs.LawfulNever.{from_never}
use Rattle.bitcode_derive.proofs.absent.AbsentEncoderEncoderAbsent.encode.Goals as goal

pub returns-clause-joined : goal.returns-clause-joined
returns-clause-joined g c = from_never g.T.NoVariants.never c.args._t.now.value _
