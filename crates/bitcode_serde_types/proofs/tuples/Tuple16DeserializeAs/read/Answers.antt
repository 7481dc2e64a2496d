-- Written by scripts/tables/serde_tuples.
-- The fields are the tuple.
use Rattle.std.proofs.Common.{refl}
use Rattle.bitcode_serde_types.proofs.KeptLemmas.{kept_otherwise}
use Rattle.bitcode_serde_types.proofs.tuples.Tuple16DeserializeAs.read.Goals as goal

pub returns-clause-read : goal.returns-clause-read
returns-clause-read g c = kept_otherwise _ _ _ _ _ _ _ _ refl c.in_ok-fields.ensures.read
