-- The elements of a list of such a length, as those of any list.
use Rattle.std.proofs.Common.{arith, inl, inr, refl, ◌∙◌}
use Rattle.std.proofs.lemmas.Result.{err_from_is_err_and}
use Rattle.bitcode_untyped.specs.ShapeTree.{seq_tree}
use Rattle.bitcode_serde.proofs.ColumnLemmas.{passed_on}
use Rattle.bitcode_serde.proofs.ValueLemmas.{continues_on}
use Rattle.bitcode_serde_types.specs.Limited.{has_length, limited_tree}
use Rattle.bitcode_serde_types.specs.Lists.{list_datum}
use Rattle.bitcode_serde_types.specs.Refusals.{IsRefusalAt}
use Rattle.bitcode_serde_types.proofs.KeptLemmas.{list_kept}
use Rattle.bitcode_serde_types.proofs.NotedLemmas.{noted_refused_too, limited_refused, limited_kept}
use Rattle.bitcode_serde_types.proofs.RefusalLemmas.{seq_refused}
use Rattle.bitcode_serde_types.proofs.sequences.read_limited.Goals as goal

pub returns-in_err-list-clause-refused : goal.returns-in_err-list-clause-refused
returns-in_err-list-clause-refused g c =
    let s = g.T.HasShape.tree c.args.left in
    let l = c.args.limits in
    let y = err_from_is_err_and c.from_residual.result c.from_residual.ensures.1 in
    passed_on (λ e. IsRefusalAt (limited_tree l.least l.most l.otherwise s) c.args.place c.args.reader.now e.reason) c.from_residual.result
    c.in_err-list.field-0.0 y.0 y.1 y.2
    (noted_refused_too (has_length l.least l.most l.otherwise) (seq_tree s) c.args.place c.args.reader.now _
    (c.in_err-list.ensures.refused s (c.is_free.ensures c.args.left)))

pub returns-in_err-values-clause-refused : goal.returns-in_err-values-clause-refused
returns-in_err-values-clause-refused g c =
    let s = g.T.HasShape.tree c.args.left in
    let l = c.args.limits in
    let y = err_from_is_err_and c.from_residual-in_err-values.result c.from_residual-in_err-values.ensures.1 in
    passed_on (λ e. IsRefusalAt (limited_tree l.least l.most l.otherwise s) c.args.place c.args.reader.now e.reason) c.from_residual-in_err-values.result
    c.in_err-values.field-0.0 y.0 y.1 y.2
    (noted_refused_too (has_length l.least l.most l.otherwise) (seq_tree s) c.args.place c.args.reader.now _
    (seq_refused s c.args.reader.now c.enter_list.new.reader c.args.place c.in_ok-list.list.place c.in_ok-list.list.count _ c.in_ok-list.ensures.enters
    c.in_err-values.ensures.refused))

pub returns-then-list-limits-clause-refused : goal.returns-then-list-limits-clause-refused
returns-then-list-limits-clause-refused g c =
    let s = g.T.HasShape.tree c.args.left in
    let l = c.args.limits in
    passed_on (λ e. IsRefusalAt (limited_tree l.least l.most l.otherwise s) c.args.place c.args.reader.now e.reason) c.err.result _ _ c.err.ensures refl
    (limited_refused s l.least l.most l.otherwise c.in_ok-list.ensures.enters
    (elim c.then-list-limits.either [
      | inl less ↦ inl less
      | inr more ↦ inr more.1
    ]) c.requires.known)

pub returns-clause-continues : goal.returns-clause-continues
returns-clause-continues g c =
    continues_on c.args.reader.now c.enter_list.new.reader _ c.in_ok-list.ensures.continues c.in_ok-values.ensures.continues

pub returns-clause-read : goal.returns-clause-read
returns-clause-read g c =
    let f = g.T.HasShape.datum in
    let l = c.args.limits in
    limited_kept (g.T.HasShape.tree c.args.left) l.least l.most l.otherwise c.in_ok-list.ensures.enters (λ v. list_datum f v.items) c.args.budget.now _ c.in_ok-values.values _ (omega arith)
    (omega arith)
    (list_kept f (λ v. list_datum f v.items) (g.T.HasShape.tree c.args.left) c.args.reader.now c.enter_list.new.reader _ c.args.place
    c.in_ok-list.list.place c.in_ok-list.list.count c.args.budget.now c.enter_list.new.budget _ c.in_ok-values.values.items c.in_ok-values.values refl
    c.enter_list.ensures.taken c.in_ok-list.ensures.enters (λ free. c.in_ok-list.ensures.few (c.is_free.ensures c.args.left ∙ free))
    c.in_ok-values.ensures.read)
