-- A refusal of the list is passed on.
use Rattle.std.proofs.lemmas.Result.{err_from_is_err_and}
use Rattle.bitcode_untyped.specs.ShapeTree.{seq_tree}
use Rattle.bitcode_serde.proofs.ColumnLemmas.{passed_on}
use Rattle.bitcode_serde_types.specs.Refusals.{IsRefusalAt}
use Rattle.bitcode_serde_types.proofs.lists.ArcSliceDeserializeAs.read.Goals as goal

pub returns-in_err-values-clause-refused : goal.returns-in_err-values-clause-refused
returns-in_err-values-clause-refused g c =
    let s = g.T.HasShape.tree c.args.left in
    let y = err_from_is_err_and c.from_residual.result c.from_residual.ensures.1 in
    passed_on (λ e. IsRefusalAt (seq_tree s) c.args.place c.args.reader.now e.reason) c.from_residual.result c.in_err-values.field-0.0 y.0 y.1 y.2
    c.in_err-values.ensures.refused
