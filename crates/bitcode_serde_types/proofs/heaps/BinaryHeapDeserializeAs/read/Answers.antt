-- The heap has the elements of the list, in an order of its own.
use Rattle.std.specs.BinaryHeap.{heap_items}
use Rattle.std.proofs.lemmas.Result.{err_from_is_err_and}
use Rattle.bitcode_untyped.specs.ShapeTree.{any_order, seq_tree}
use Rattle.bitcode_serde.proofs.ColumnLemmas.{passed_on}
use Rattle.bitcode_serde_types.specs.Heaps.{heap_tree}
use Rattle.bitcode_serde_types.specs.Refusals.{IsRefusalAt}
use Rattle.bitcode_serde_types.proofs.NotedLemmas.{noted_refused_too, heap_kept}
use Rattle.bitcode_serde_types.proofs.heaps.BinaryHeapDeserializeAs.read.Goals as goal

pub returns-in_err-values-clause-refused : goal.returns-in_err-values-clause-refused
returns-in_err-values-clause-refused g c =
    let s = g.T.HasShape.tree c.args.left in
    let y = err_from_is_err_and c.from_residual.result c.from_residual.ensures.1 in
    passed_on (λ e. IsRefusalAt (heap_tree s) c.args.place c.args.reader.now e.reason) c.from_residual.result c.in_err-values.field-0.0 y.0 y.1 y.2
    (noted_refused_too any_order (seq_tree s) c.args.place c.args.reader.now _ c.in_err-values.ensures.refused)

pub returns-clause-read : goal.returns-clause-read
returns-clause-read g c =
    heap_kept g.T.HasShape.datum (g.T.HasShape.tree c.args.left) c.args.place c.args.reader.now _ c.args.budget.now _ (λ v. v.items)
    c.in_ok-values.values (λ h. heap_items h) c.from.result c.from.ensures.1 c.in_ok-values.ensures.read
