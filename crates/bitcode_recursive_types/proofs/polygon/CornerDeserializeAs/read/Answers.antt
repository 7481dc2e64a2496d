-- The fields are the struct. Written by `scripts/second_format`.
use Rattle.std.proofs.Common.{rules, refl}
use Rattle.bitcode_serde_types.proofs.StepsRead.{kept_otherwise}
use Rattle.bitcode_recursive_types.specs.PolygonShape.{corner_datum}
use Rattle.bitcode_recursive_types.proofs.polygon.CornerDeserializeAs.read.Goals as goal

pub returns-clause-read : goal.returns-clause-read
returns-clause-read c =
    let k = kept_otherwise _ _ corner_datum _ _ _ _ (record { x = c.in_ok-fields.fields.0; y = c.in_ok-fields.fields.1.0 }) refl c.in_ok-fields.ensures.read in
    search (rules, k)
