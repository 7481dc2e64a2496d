-- The values are taken at once.
use Rattle.std.proofs.Common.{map, ◌∙◌}
use Rattle.std.proofs.lemmas.List.{length-map}
use Rattle.std.proofs.lemmas.Result.{err_from_is_err_and}
use Rattle.bitcode_shapes.specs.Shape.{any_number}
use Rattle.bitcode_untyped.specs.ShapeTree.{leaf_tree}
use Rattle.bitcode_untyped.specs.View.{datum_of}
use Rattle.bitcode_serde.specs.ReadColumns.{kind_of}
use Rattle.bitcode_serde.specs.ReadingValues.{IsListRefusalAt}
use Rattle.bitcode_serde.proofs.ColumnLemmas.{passed_on}
use Rattle.bitcode_serde.proofs.ValueLemmas.{continues_here, leaves_read, leaves_refused}
use Rattle.bitcode_serde.proofs.read_leaf.read_leaves.Goals as goal

pub returns-clause-continues : goal.returns-clause-continues
returns-clause-continues c =
    continues_here c.args.reader.now c.take_each.new.self c.requires.steady c.take_each.ensures.below c.take_each.ensures.asked c.in_ok-values.ensures.sized

pub returns-clause-read : goal.returns-clause-read
returns-clause-read c =
    leaves_read c.args.reader.now c.take_each.new.self c.args.place c.args.count (kind_of c.args.kind) (map datum_of c.in_ok-values.values.items) c.in_ok-values.ensures.leads
    (length-map c.in_ok-values.values.items datum_of ∙ c.in_ok-values.ensures.size)

pub returns-in_err-values-clause-refused : goal.returns-in_err-values-clause-refused
returns-in_err-values-clause-refused c =
    let y = err_from_is_err_and c.from_residual.result c.from_residual.ensures.1 in
    passed_on (λ e. IsListRefusalAt (leaf_tree (kind_of c.args.kind) any_number) c.args.place c.args.reader.now c.args.count e.reason) c.from_residual.result c.in_err-values.field-0.0 y.0 y.1 y.2
    (leaves_refused c.args.reader.now c.args.place c.args.count (kind_of c.args.kind) _ c.in_err-values.ensures.refused)
