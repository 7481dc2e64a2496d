-- A marker has one listing, which adds no column.
use Rattle.std.proofs.Common.{refl}
use Rattle.bitcode_shapes.specs.Datum.{unit}
use Rattle.bitcode_parts.proofs.markers.EmptyCoderEncoderPhantomData.encode.Goals as goal

pub returns-clause-joined : goal.returns-clause-joined
returns-clause-joined g c = record { datum = unit; listing = refl; joined = refl; fits = λ h. h }
