-- No fields are left.
use Rattle.std.proofs.Common.{refl}
use Rattle.bitcode_shapes.specs.Datum.{no_data}
use Rattle.bitcode_serde_types.proofs.RestOfFields.{no_fields}
use Rattle.bitcode_serde_types.proofs.read_fields.UnitDeserializeFields.read_fields.Goals as goal

pub returns-clause-read : goal.returns-clause-read
returns-clause-read c = no_fields (λ u. no_data) _ c.args._place c.args._i c.args._fields c.args._reader.now c.args._budget.now refl
