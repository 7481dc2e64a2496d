-- A field, and then those behind it.
use Rattle.std.proofs.Common.{inl}
use Rattle.std.proofs.lemmas.Result.{err_from_is_err_and}
use Rattle.bitcode_serde_types.specs.DeepFaults.{deep_faults_of_fields}
use Rattle.bitcode_serde_types.proofs.FieldLemmas.{fields_refused, first_refused, fields_then}
use Rattle.bitcode_serde_types.proofs.fields.Tuple2SerializeFields.write_fields.Goals as goal

pub returns-in_err-inside : goal.returns-in_err-inside
returns-in_err-inside g c =
    let y = err_from_is_err_and c.from_residual.result c.from_residual.ensures.1 in
    fields_refused c.args.writer.now _ _ c.args.place c.args.i c.args.fields _ _ c.from_residual.result c.in_err-inside.field-0.0 y.0 y.1 y.2
    (λ root of part. inl c.in_err-inside.ensures.refused)

pub returns-in_err-write : goal.returns-in_err-write
returns-in_err-write g c =
    let y = err_from_is_err_and c.from_residual-in_err-write.result c.from_residual-in_err-write.ensures.1 in
    fields_refused c.args.writer.now _ _ c.args.place c.args.i c.args.fields _ _ c.from_residual-in_err-write.result c.in_err-write.field-0.0 y.0 y.1 y.2
    (first_refused c.args.writer.now c.field_below.new.writer (g.A.HasShape.tree c.args.left) (g.R.HasShapes.trees c.args.left) c.args.place
    c.in_ok-inside.inside c.args.i c.args.fields (g.A.HasShape.datum c.args.self.now.0)
    (deep_faults_of_fields (g.R.HasShapes.trees c.args.left) (g.R.HasShapes.content c.args.self.now.1))
    c.in_ok-inside.ensures.grows c.in_ok-inside.ensures.written c.in_ok-inside.ensures.place _ c.in_err-write.ensures.refused)

pub returns : goal.returns
returns g c =
    fields_then c.args.writer.now c.field_below.new.writer (g.A.HasShape.tree c.args.left) (g.R.HasShapes.trees c.args.left) c.args.place
    c.in_ok-inside.inside c.args.i c.args.fields (g.A.HasShape.datum c.args.self.now.0)
    (deep_faults_of_fields (g.R.HasShapes.trees c.args.left) (g.R.HasShapes.content c.args.self.now.1))
    c.in_ok-inside.ensures.grows c.in_ok-inside.ensures.written c.in_ok-inside.ensures.place c.write.new.writer c.in_ok-write.ensures.written
    c.in_ok-write.ensures.of_tree c.in_ok-write.ensures.whole c.requires.place _ c.write_fields.result c.write_fields.new.writer c.write_fields.ensures
