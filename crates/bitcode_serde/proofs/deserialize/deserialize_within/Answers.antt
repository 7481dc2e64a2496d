-- What was read and kept within the limit, and the laws of what is spelled.
use Rattle.std.proofs.Common.{refl, sym, subst, ◌∙◌}
use Rattle.std.proofs.lemmas.Result.{err_from_is_err_and}
use Rattle.bitcode_untyped.specs.Nodes.{node_count}
use Rattle.bitcode_untyped.specs.Spelling.{SpellsDatum}
use Rattle.bitcode_untyped.specs.View.{tree_of}
use Rattle.bitcode_serde.specs.Budget.{IsLeft}
use Rattle.bitcode_serde.specs.ReadingValues.{IsRefusalWithin}
use Rattle.bitcode_serde.proofs.BudgetLemmas.{within_limit, over_limit}
use Rattle.bitcode_serde.proofs.ColumnLemmas.{passed_on}
use Rattle.bitcode_serde.proofs.WholeLemmas.{one_spelled, size_bound, bounded, only_value}
use Rattle.bitcode_serde.proofs.WithinLemmas.{refused_too, too_many_refused}
use Rattle.bitcode_serde.proofs.deserialize.deserialize_within.Goals as goal

pub returns-clause-read : goal.returns-clause-read
returns-clause-read c =
    let k = c.in_ok-read.ensures.read in
    subst (SpellsDatum (tree_of c.args.shape.now) c.args.bytes.now) (sym (k.same c.if-is_spent.ensures)) k.read

pub returns-clause-within : goal.returns-clause-within
returns-clause-within c =
    let k = c.in_ok-read.ensures.read in
    rw (k.same c.if-is_spent.ensures) (within_limit (node_count k.datum) c.args.limit (subst IsLeft k.taken c.if-is_spent.ensures))

pub returns-clause-whole : goal.returns-clause-whole
returns-clause-whole c = c.in_ok-read.ensures.whole c.if-is_spent.ensures

pub returns-clause-only : goal.returns-clause-only
returns-clause-only c = only_value c.args.shape.now c.args.bytes.now c.in_ok-read.read.0 (returns-clause-read c) (returns-clause-whole c)

pub returns-in_err-read-clause-refused : goal.returns-in_err-read-clause-refused
returns-in_err-read-clause-refused c =
    let y = err_from_is_err_and c.from_residual.result c.from_residual.ensures.1 in
    passed_on (λ e. IsRefusalWithin c.args.limit (SpellsDatum (tree_of c.args.shape.now) c.args.bytes.now) e.reason) c.from_residual.result
    c.in_err-read.field-0.0 y.0 y.1 y.2 (refused_too c.args.limit _ _ c.in_err-read.ensures.refused)

pub returns-then-is_spent-clause-refused : goal.returns-then-is_spent-clause-refused
returns-then-is_spent-clause-refused c =
    let k = c.in_ok-read.ensures.read in
    passed_on (λ e. IsRefusalWithin c.args.limit (SpellsDatum (tree_of c.args.shape.now) c.args.bytes.now) e.reason) c.err.result _ _ c.err.ensures refl
    (too_many_refused c.args.limit _ k.datum k.read (over_limit (node_count k.datum) c.args.limit (sym k.taken ∙ c.if-is_spent.ensures)))

pub returns-in_err-read-clause-unambiguous : goal.returns-in_err-read-clause-unambiguous
returns-in_err-read-clause-unambiguous c = one_spelled (tree_of c.args.shape.now) c.args.bytes.now

pub returns-in_err-read-clause-size_bound : goal.returns-in_err-read-clause-size_bound
returns-in_err-read-clause-size_bound c = size_bound c.args.shape.now c.args.bytes.now

pub returns-in_err-read-clause-bounded : goal.returns-in_err-read-clause-bounded
returns-in_err-read-clause-bounded c = bounded c.args.shape.now c.args.bytes.now

pub returns-then-is_spent-clause-unambiguous : goal.returns-then-is_spent-clause-unambiguous
returns-then-is_spent-clause-unambiguous c = one_spelled (tree_of c.args.shape.now) c.args.bytes.now

pub returns-then-is_spent-clause-size_bound : goal.returns-then-is_spent-clause-size_bound
returns-then-is_spent-clause-size_bound c = size_bound c.args.shape.now c.args.bytes.now

pub returns-then-is_spent-clause-bounded : goal.returns-then-is_spent-clause-bounded
returns-then-is_spent-clause-bounded c = bounded c.args.shape.now c.args.bytes.now

pub returns-clause-unambiguous : goal.returns-clause-unambiguous
returns-clause-unambiguous c = one_spelled (tree_of c.args.shape.now) c.args.bytes.now

pub returns-clause-size_bound : goal.returns-clause-size_bound
returns-clause-size_bound c = size_bound c.args.shape.now c.args.bytes.now

pub returns-clause-bounded : goal.returns-clause-bounded
returns-clause-bounded c = bounded c.args.shape.now c.args.bytes.now
