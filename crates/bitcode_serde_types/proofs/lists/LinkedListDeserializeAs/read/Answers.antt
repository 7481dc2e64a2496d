-- The list is made of the elements that are collected, which are all of them.
use Rattle.std.proofs.Common.{◌≡◌, ap, sym, ◌∙◌}
use Rattle.std.proofs.lemmas.Iterator.{items_from_drains}
use Rattle.std.proofs.lemmas.Iterator.Adapters.{YieldsList-from_vec}
use Rattle.std.proofs.lemmas.List.{map-id}
use Rattle.std.proofs.lemmas.Result.{err_from_is_err_and}
use Rattle.bitcode_untyped.specs.ShapeTree.{seq_tree}
use Rattle.bitcode_serde.proofs.ColumnLemmas.{passed_on}
use Rattle.bitcode_serde_types.specs.Lists.{list_datum}
use Rattle.bitcode_serde_types.specs.Refusals.{IsRefusalAt}
use Rattle.bitcode_serde_types.proofs.KeptLemmas.{kept_otherwise}
use Rattle.bitcode_serde_types.proofs.lists.LinkedListDeserializeAs.read.Goals as goal

pub returns-in_err-values-clause-refused : goal.returns-in_err-values-clause-refused
returns-in_err-values-clause-refused g c =
    let s = g.T.HasShape.tree c.args.left in
    let y = err_from_is_err_and c.from_residual.result c.from_residual.ensures.1 in
    passed_on (λ e. IsRefusalAt (seq_tree s) c.args.place c.args.reader.now e.reason) c.from_residual.result c.in_err-values.field-0.0 y.0 y.1 y.2
    c.in_err-values.ensures.refused

pub returns-clause-read : goal.returns-clause-read
returns-clause-read g c =
    let f = g.T.HasShape.datum in
    let values = c.in_ok-values.values in
    let ran = c.in_ok-from_iter.ensures.ran in
    let all : ran.1 ≡ values.items =
    sym (map-id ran.1) ∙ items_from_drains ran.1 ran.3 (YieldsList-from_vec values.items ran.2.0 (ran.2.1 ∙ values.ok.0)) in
    kept_otherwise _ (λ v. list_datum f v.items) (list_datum f) _ _ _ values c.in_ok-from_iter.field-0 (ap (list_datum f) (ran.4 ∙ all))
    c.in_ok-values.ensures.read
