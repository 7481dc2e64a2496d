-- The fields are the struct. Written by `scripts/second_format`.
use Rattle.std.proofs.Common.{refl}
use Rattle.bitcode_serde_types.proofs.StepsRead.{kept_otherwise}
use Rattle.bitcode_recursive_types.proofs.desk.DeskDeserializeAs.read.Goals as goal

pub returns-clause-read : goal.returns-clause-read
returns-clause-read c = kept_otherwise _ _ _ _ _ _ _ _ refl c.in_ok-fields.ensures.read
