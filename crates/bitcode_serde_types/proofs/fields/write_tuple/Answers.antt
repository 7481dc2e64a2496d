-- All fields are the tuple.
use Rattle.std.proofs.Common.{subst, sym}
use Rattle.bitcode_serde_types.specs.DeepFaults.{deep_faults_of_fields}
use Rattle.bitcode_serde_types.specs.FieldsWritten.{FieldsOutcome}
use Rattle.bitcode_serde_types.proofs.FieldLemmas.{tuple_outcome}
use Rattle.bitcode_serde_types.proofs.fields.write_tuple.Goals as goal

pub returns : goal.returns
returns g c =
    let ss = g.R.HasShapes.trees c.args.left in
    let ds = g.R.HasShapes.content c.args.fields.now in
    tuple_outcome c.args.writer.now c.write_fields.new.writer ss c.args.place ds (deep_faults_of_fields ss ds) c.write_fields.result
    (subst (λ k. FieldsOutcome c.args.writer.now ss c.args.place 0 k ds (deep_faults_of_fields ss ds) c.write_fields.result c.write_fields.new.writer)
    (sym c.requires.all) c.write_fields.ensures)
