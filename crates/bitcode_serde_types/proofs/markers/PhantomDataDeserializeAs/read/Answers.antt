-- A marker is a unit.
use Rattle.std.proofs.Common.{refl}
use Rattle.bitcode_shapes.specs.Datum.{unit}
use Rattle.bitcode_serde_types.proofs.KeptLemmas.{unit_kept}
use Rattle.bitcode_serde_types.proofs.markers.PhantomDataDeserializeAs.read.Goals as goal

pub returns-clause-read : goal.returns-clause-read
returns-clause-read g c = unit_kept (λ u. unit) c.args._place c.args._reader.now c.args.budget.now c.take.new.self _ refl c.take.ensures
