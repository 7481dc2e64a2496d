-- A field, and then those behind it.
use Rattle.std.proofs.Common.{rules}
use Rattle.std.proofs.lemmas.Result.{err_from_is_err_and}
use Rattle.bitcode_untyped.specs.ShapeTree.{tree_and}
use Rattle.bitcode_serde.proofs.ColumnLemmas.{passed_on}
use Rattle.bitcode_serde.proofs.ValueLemmas.{continues_on, still_there}
use Rattle.bitcode_serde_types.specs.Refusals.{IsFieldsRefusalAt}
use Rattle.bitcode_serde_types.proofs.RestOfFields.{first_refused, rest_refused, field_and_rest}
use Rattle.bitcode_serde_types.proofs.read_fields.Tuple2DeserializeFields.read_fields.Goals as goal

pub returns-in_err-first-clause-refused : goal.returns-in_err-first-clause-refused
returns-in_err-first-clause-refused g c =
    let s = g.A.HasShape.tree c.args.left in
    let ss = g.R.HasShapes.trees c.args.left in
    let y = err_from_is_err_and c.from_residual.result c.from_residual.ensures.1 in
    passed_on (λ e. IsFieldsRefusalAt (tree_and s ss) c.args.place c.args.i c.args.fields c.args.reader.now e.reason) c.from_residual.result
    c.in_err-first.field-0.0 y.0 y.1 y.2
    (first_refused s ss c.args.place c.args.i c.args.fields c.args.reader.now _ c.in_err-first.ensures.refused)

pub read_fields-requires : goal.read_fields-requires
read_fields-requires g c κs =
    let there = still_there c.args.reader.now c.read_field.new.reader c.args.place c.in_ok-first.ensures.continues c.requires.place in
    let steady = c.in_ok-first.ensures.continues.steady in
    search (rules, there, steady)

pub returns-in_err-rest-clause-refused : goal.returns-in_err-rest-clause-refused
returns-in_err-rest-clause-refused g c =
    let s = g.A.HasShape.tree c.args.left in
    let ss = g.R.HasShapes.trees c.args.left in
    let y = err_from_is_err_and c.from_residual-in_err-rest.result c.from_residual-in_err-rest.ensures.1 in
    passed_on (λ e. IsFieldsRefusalAt (tree_and s ss) c.args.place c.args.i c.args.fields c.args.reader.now e.reason)
    c.from_residual-in_err-rest.result c.in_err-rest.field-0.0 y.0 y.1 y.2
    (rest_refused s ss c.args.place c.args.i c.args.fields c.args.reader.now g.A.HasShape.datum c.in_ok-first.first c.args.budget.now c.read_field.new.budget
    c.read_field.new.reader c.in_ok-first.ensures.continues c.in_ok-first.ensures.read _ c.in_err-rest.ensures.refused)

pub returns-clause-continues : goal.returns-clause-continues
returns-clause-continues g c =
    continues_on c.args.reader.now c.read_field.new.reader c.read_fields.new.reader c.in_ok-first.ensures.continues c.in_ok-rest.ensures.continues

pub returns-clause-read : goal.returns-clause-read
returns-clause-read g c =
    let s = g.A.HasShape.tree c.args.left in
    let ss = g.R.HasShapes.trees c.args.left in
    field_and_rest s ss c.args.place c.args.i c.args.fields c.args.reader.now g.A.HasShape.datum c.in_ok-first.first c.args.budget.now c.read_field.new.budget
    c.read_field.new.reader c.in_ok-first.ensures.continues c.in_ok-first.ensures.read g.R.HasShapes.content c.in_ok-rest.rest c.read_fields.new.reader
    c.read_fields.new.budget c.in_ok-rest.ensures.read
