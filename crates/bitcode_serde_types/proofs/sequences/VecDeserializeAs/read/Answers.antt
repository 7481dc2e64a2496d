-- A list is a length and its elements.
use Rattle.std.proofs.Common.{◌∙◌, map, refl}
use Rattle.std.proofs.lemmas.Result.{err_from_is_err_and}
use Rattle.bitcode_shapes.specs.Datum.{list, data_of}
use Rattle.bitcode_untyped.specs.ShapeTree.{seq_tree}
use Rattle.bitcode_serde.proofs.ColumnLemmas.{passed_on}
use Rattle.bitcode_serde.proofs.ValueLemmas.{continues_on}
use Rattle.bitcode_serde_types.specs.Refusals.{IsRefusalAt}
use Rattle.bitcode_serde_types.proofs.KeptLemmas.{list_kept}
use Rattle.bitcode_serde_types.proofs.RefusalLemmas.{seq_refused}
use Rattle.bitcode_serde_types.proofs.sequences.VecDeserializeAs.read.Goals as goal

pub returns-in_err-list-clause-refused : goal.returns-in_err-list-clause-refused
returns-in_err-list-clause-refused g c =
    let s = g.T.HasShape.tree c.args.left in
    let y = err_from_is_err_and c.from_residual.result c.from_residual.ensures.1 in
    passed_on (λ e. IsRefusalAt (seq_tree s) c.args.place c.args.reader.now e.reason) c.from_residual.result c.in_err-list.field-0.0 y.0 y.1 y.2
    (c.in_err-list.ensures.refused s (c.is_free.ensures c.args.left))

pub returns-in_err-values-clause-refused : goal.returns-in_err-values-clause-refused
returns-in_err-values-clause-refused g c =
    let s = g.T.HasShape.tree c.args.left in
    let y = err_from_is_err_and c.from_residual-in_err-values.result c.from_residual-in_err-values.ensures.1 in
    passed_on (λ e. IsRefusalAt (seq_tree s) c.args.place c.args.reader.now e.reason) c.from_residual-in_err-values.result c.in_err-values.field-0.0 y.0 y.1 y.2
    (seq_refused s c.args.reader.now c.enter_list.new.reader c.args.place c.in_ok-list.list.place c.in_ok-list.list.count _ c.in_ok-list.ensures.enters
    c.in_err-values.ensures.refused)

pub returns-clause-continues : goal.returns-clause-continues
returns-clause-continues g c =
    continues_on c.args.reader.now c.enter_list.new.reader _ c.in_ok-list.ensures.continues c.in_ok-values.ensures.continues

pub returns-clause-read : goal.returns-clause-read
returns-clause-read g c =
    list_kept g.T.HasShape.datum (λ v. list (data_of (map g.T.HasShape.datum v.items))) (g.T.HasShape.tree c.args.left) c.args.reader.now
    c.enter_list.new.reader _ c.args.place c.in_ok-list.list.place c.in_ok-list.list.count c.args.budget.now c.enter_list.new.budget _
    c.in_ok-values.values.items c.in_ok-values.values refl c.enter_list.ensures.taken c.in_ok-list.ensures.enters
    (λ free. c.in_ok-list.ensures.few (c.is_free.ensures c.args.left ∙ free)) c.in_ok-values.ensures.read
