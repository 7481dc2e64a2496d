-- What was read from the root, and the laws of what is spelled.
use Rattle.std.proofs.Common.{◌≢◌}
use Rattle.std.proofs.lemmas.Result.{err_from_is_err_and}
use Rattle.bitcode_memory.specs.declared.error.Reason.TheVariants.{OutOfMemory}
use Rattle.bitcode_shapes.specs.Datum.{Datum}
use Rattle.bitcode_untyped.specs.Spelling.{SpellsDatum}
use Rattle.bitcode_untyped.specs.View.{tree_of}
use Rattle.bitcode_serde.specs.ReadingValues.{IsValueReason}
use Rattle.bitcode_serde.proofs.BudgetLemmas.{all_kept}
use Rattle.bitcode_serde.proofs.ColumnLemmas.{passed_on}
use Rattle.bitcode_serde.proofs.WholeLemmas.{one_spelled, size_bound, bounded, only_value}
use Rattle.bitcode_serde.proofs.deserialize.deserialize.Goals as goal

pub returns-in_err-read-clause-unambiguous : goal.returns-in_err-read-clause-unambiguous
returns-in_err-read-clause-unambiguous c = one_spelled (tree_of c.args.shape.now) c.args.bytes.now

pub returns-in_err-read-clause-size_bound : goal.returns-in_err-read-clause-size_bound
returns-in_err-read-clause-size_bound c = size_bound c.args.shape.now c.args.bytes.now

pub returns-in_err-read-clause-bounded : goal.returns-in_err-read-clause-bounded
returns-in_err-read-clause-bounded c = bounded c.args.shape.now c.args.bytes.now

pub returns-clause-unambiguous : goal.returns-clause-unambiguous
returns-clause-unambiguous c = one_spelled (tree_of c.args.shape.now) c.args.bytes.now

pub returns-clause-size_bound : goal.returns-clause-size_bound
returns-clause-size_bound c = size_bound c.args.shape.now c.args.bytes.now

pub returns-clause-bounded : goal.returns-clause-bounded
returns-clause-bounded c = bounded c.args.shape.now c.args.bytes.now

pub returns-in_err-read-clause-refused : goal.returns-in_err-read-clause-refused
returns-in_err-read-clause-refused c =
    let y = err_from_is_err_and c.from_residual.result c.from_residual.ensures.1 in
    passed_on (λ e. IsValueReason e.reason × (e.reason ≢ OutOfMemory → (d : Datum) → SpellsDatum (tree_of c.args.shape.now) c.args.bytes.now d → ⊥)) c.from_residual.result
    c.in_err-read.field-0.0 y.0 y.1 y.2 c.in_err-read.ensures.refused

pub returns-clause-read : goal.returns-clause-read
returns-clause-read c = (all_kept (SpellsDatum (tree_of c.args.shape.now) c.args.bytes.now) c.in_ok-read.read.0 _ c.in_ok-read.ensures.read).1

pub returns-clause-whole : goal.returns-clause-whole
returns-clause-whole c =
    c.in_ok-read.ensures.whole (all_kept (SpellsDatum (tree_of c.args.shape.now) c.args.bytes.now) c.in_ok-read.read.0 _ c.in_ok-read.ensures.read).0

pub returns-clause-only : goal.returns-clause-only
returns-clause-only c = only_value c.args.shape.now c.args.bytes.now c.in_ok-read.read.0 (returns-clause-read c) (returns-clause-whole c)
