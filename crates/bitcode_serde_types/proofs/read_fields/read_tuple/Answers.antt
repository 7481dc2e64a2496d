-- All fields are the tuple.
use Rattle.std.proofs.Common.{subst, sym}
use Rattle.std.proofs.lemmas.Result.{err_from_is_err_and}
use Rattle.bitcode_untyped.specs.ShapeTree.{tuple_tree}
use Rattle.bitcode_serde.proofs.ColumnLemmas.{passed_on}
use Rattle.bitcode_serde_types.specs.ReadingAs.{ReadsFieldsAs}
use Rattle.bitcode_serde_types.specs.Refusals.{IsRefusalAt, IsFieldsRefusalAt}
use Rattle.bitcode_serde_types.proofs.RestOfFields.{fields_refused, all_read}
use Rattle.bitcode_serde_types.proofs.read_fields.read_tuple.Goals as goal

pub returns-in_err-fields-clause-refused : goal.returns-in_err-fields-clause-refused
returns-in_err-fields-clause-refused g c =
    let ss = g.R.HasShapes.trees c.args.left in
    let y = err_from_is_err_and c.from_residual.result c.from_residual.ensures.1 in
    passed_on (λ e. IsRefusalAt (tuple_tree ss) c.args.place c.args.reader.now e.reason) c.from_residual.result c.in_err-fields.field-0.0 y.0 y.1 y.2
    (fields_refused ss c.args.place c.args.reader.now _
    (subst (λ n. IsFieldsRefusalAt ss c.args.place 0 n c.args.reader.now c.in_err-fields.field-0.0.reason) (sym c.requires.all) c.in_err-fields.ensures.refused))

pub returns-clause-read : goal.returns-clause-read
returns-clause-read g c =
    let ss = g.R.HasShapes.trees c.args.left in
    all_read ss c.args.place c.args.reader.now g.R.HasShapes.content c.in_ok-fields.fields c.args.budget.now c.take.new.self c.read_fields.new.reader
    c.read_fields.new.budget c.take.ensures
    (subst
    (λ n. ReadsFieldsAs g.R.HasShapes.content ss c.args.place 0 n c.args.reader.now c.take.new.self c.in_ok-fields.fields c.read_fields.new.reader c.read_fields.new.budget)
    (sym c.requires.all) c.in_ok-fields.ensures.read)
