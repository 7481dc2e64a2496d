-- A list of as many elements as fit.
use Rattle.std.proofs.Common.{ap}
use Rattle.std.proofs.lemmas.Result.{err_from_is_err_and}
use Rattle.bitcode_serde.proofs.ColumnLemmas.{passed_on}
use Rattle.bitcode_serde_types.specs.Limited.{array_vec_tree}
use Rattle.bitcode_serde_types.specs.Lists.{list_datum}
use Rattle.bitcode_serde_types.specs.Refusals.{IsRefusalAt}
use Rattle.bitcode_serde_types.proofs.KeptLemmas.{kept_while_left}
use Rattle.bitcode_serde_types.proofs.fixed_capacity.ArrayVecDeserializeAs.read.Goals as goal

pub returns-in_err-values-clause-refused : goal.returns-in_err-values-clause-refused
returns-in_err-values-clause-refused g c =
    let s = g.T.HasShape.tree c.args.left in
    let y = err_from_is_err_and c.from_residual.result c.from_residual.ensures.1 in
    passed_on (λ e. IsRefusalAt (array_vec_tree g.row.N s) c.args.place c.args.reader.now e.reason) c.from_residual.result c.in_err-values.field-0.0 y.0 y.1 y.2
    c.in_err-values.ensures.refused

pub returns-clause-read : goal.returns-clause-read
returns-clause-read g c =
    let f = g.T.HasShape.datum in
    kept_while_left _ (λ v. list_datum f v.items) (λ v. list_datum f v.items) _ c.args.budget.now _ c.in_ok-values.values c.if_they_fit.result
    (λ left. ap (list_datum f) (c.if_they_fit.ensures (c.in_ok-values.ensures.all left).1)) c.in_ok-values.ensures.read
