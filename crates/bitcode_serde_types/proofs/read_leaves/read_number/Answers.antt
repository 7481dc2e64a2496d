-- The entry of the column of the case.
use Rattle.std.proofs.Common.{subst}
use Rattle.std.proofs.lemmas.Result.{err_from_is_err_and}
use Rattle.bitcode_shapes.specs.Shape.{any_number}
use Rattle.bitcode_untyped.specs.ShapeTree.{leaf_tree}
use Rattle.bitcode_untyped.specs.View.{datum_of}
use Rattle.bitcode_serde.specs.ReadColumns.{kind_of}
use Rattle.bitcode_serde.specs.ReadingValues.{ReadsAt}
use Rattle.bitcode_serde.proofs.ColumnLemmas.{passed_on}
use Rattle.bitcode_serde.proofs.KeptLemmas.{one_node}
use Rattle.bitcode_serde_types.specs.Refusals.{IsRefusalAt}
use Rattle.bitcode_serde_types.proofs.KeptLemmas.{one_kept}
use Rattle.bitcode_serde_types.proofs.RefusalLemmas.{as_value}
use Rattle.bitcode_serde_types.proofs.read_leaves.read_number.Goals as goal

pub returns-in_err-value-clause-refused : goal.returns-in_err-value-clause-refused
returns-in_err-value-clause-refused g c =
    let y = err_from_is_err_and c.from_residual.result c.from_residual.ensures.1 in
    rw (← c.column.ensures)
    (passed_on (λ e. IsRefusalAt (leaf_tree (kind_of c.column.result) any_number) c.args.place c.args.reader.now e.reason) c.from_residual.result
    c.in_err-value.field-0.0 y.0 y.1 y.2
    (as_value (leaf_tree (kind_of c.column.result) any_number) c.args.place c.args.reader.now _ c.in_err-value.ensures.refused))

pub returns-clause-read : goal.returns-clause-read
returns-clause-read g c =
    let t = c.in-Some.held.now in
    let old = c.args.reader.now in
    let new = c.read_leaf.new.reader in
    let kind = g.T.Case.kind in
    one_kept (λ t. datum_of (g.T.Case.holder t)) (λ d. ReadsAt (leaf_tree (kind_of kind) any_number) c.args.place old d new) c.args.budget.now c.take.new.self t
    (one_node kind (g.T.Case.holder t) (g.met.T.Case.laws.of_case t)) c.take.ensures
    (subst (λ v. ReadsAt (leaf_tree (kind_of kind) any_number) c.args.place old (datum_of v) new) c.in-Some.ensures.some
    (subst (λ k. ReadsAt (leaf_tree (kind_of k) any_number) c.args.place old (datum_of c.in_ok-value.value) new) c.column.ensures c.in_ok-value.ensures.read))

pub returns-clause-entry : goal.returns-clause-entry
returns-clause-entry g c =
    let old = c.args.reader.now in
    let new = c.read_leaf.new.reader in
    let kind = g.T.Case.kind in
    subst (λ v. ReadsAt (leaf_tree (kind_of kind) any_number) c.args.place old (datum_of v) new) c.in-Some.ensures.some
    (subst (λ k. ReadsAt (leaf_tree (kind_of k) any_number) c.args.place old (datum_of c.in_ok-value.value) new) c.column.ensures c.in_ok-value.ensures.read)
