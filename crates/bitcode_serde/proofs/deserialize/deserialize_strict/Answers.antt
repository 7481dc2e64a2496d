-- What was read is the value, and its bytes are those that are written.
use Rattle.std.proofs.Common.{refl}
use Rattle.std.proofs.lemmas.Result.{err_from_is_err_and}
use Rattle.bitcode_untyped.specs.Spelling.{SpellsDatum}
use Rattle.bitcode_untyped.specs.View.{datum_of, tree_of}
use Rattle.bitcode_serde.specs.Strict.{other_bytes}
use Rattle.bitcode_serde.proofs.BudgetLemmas.{all_kept}
use Rattle.bitcode_serde.proofs.WholeLemmas.{one_spelled, size_bound, bounded, only_value, is_other, is_written, strictly_refused}
use Rattle.bitcode_serde.proofs.deserialize.deserialize_strict.Goals as goal

pub returns-in_err-read-clause-unambiguous : goal.returns-in_err-read-clause-unambiguous
returns-in_err-read-clause-unambiguous c = one_spelled (tree_of c.args.shape.now) c.args.bytes.now

pub returns-in_err-read-clause-size_bound : goal.returns-in_err-read-clause-size_bound
returns-in_err-read-clause-size_bound c = size_bound c.args.shape.now c.args.bytes.now

pub returns-in_err-read-clause-bounded : goal.returns-in_err-read-clause-bounded
returns-in_err-read-clause-bounded c = bounded c.args.shape.now c.args.bytes.now

pub returns-then-not-read-clause-unambiguous : goal.returns-then-not-read-clause-unambiguous
returns-then-not-read-clause-unambiguous c = one_spelled (tree_of c.args.shape.now) c.args.bytes.now

pub returns-then-not-read-clause-size_bound : goal.returns-then-not-read-clause-size_bound
returns-then-not-read-clause-size_bound c = size_bound c.args.shape.now c.args.bytes.now

pub returns-then-not-read-clause-bounded : goal.returns-then-not-read-clause-bounded
returns-then-not-read-clause-bounded c = bounded c.args.shape.now c.args.bytes.now

pub returns-clause-unambiguous : goal.returns-clause-unambiguous
returns-clause-unambiguous c = one_spelled (tree_of c.args.shape.now) c.args.bytes.now

pub returns-clause-size_bound : goal.returns-clause-size_bound
returns-clause-size_bound c = size_bound c.args.shape.now c.args.bytes.now

pub returns-clause-bounded : goal.returns-clause-bounded
returns-clause-bounded c = bounded c.args.shape.now c.args.bytes.now

pub returns-in_err-read-clause-refused : goal.returns-in_err-read-clause-refused
returns-in_err-read-clause-refused c =
    let y = err_from_is_err_and c.from_residual.result c.from_residual.ensures.1 in
    rw (y.1, y.2) (strictly_refused (tree_of c.args.shape.now) c.args.bytes.now _ c.in_err-read.ensures.refused)

pub returns-then-not-read-clause-refused : goal.returns-then-not-read-clause-refused
returns-then-not-read-clause-refused c =
    let kept = all_kept (SpellsDatum (tree_of c.args.shape.now) c.args.bytes.now) c.in_ok-read.read.0 _ c.in_ok-read.ensures.read in
    rw c.err.ensures (other_bytes refl (record {
      datum = datum_of c.in_ok-read.read.0;
      spelled = kept.1;
      other = λ strict. is_other c.in_ok-read.read.1 c.if-not-read.true ((c.in_ok-read.ensures.judged refl kept.0).1 strict);
    }))

pub returns-clause-read : goal.returns-clause-read
returns-clause-read c =
    let kept = all_kept (SpellsDatum (tree_of c.args.shape.now) c.args.bytes.now) c.in_ok-read.read.0 _ c.in_ok-read.ensures.read in
    (c.in_ok-read.ensures.judged refl kept.0).0 (is_written c.in_ok-read.read.1 c.if-not-read.false)

pub returns-clause-whole : goal.returns-clause-whole
returns-clause-whole c =
    c.in_ok-read.ensures.whole (all_kept (SpellsDatum (tree_of c.args.shape.now) c.args.bytes.now) c.in_ok-read.read.0 _ c.in_ok-read.ensures.read).0

pub returns-clause-only : goal.returns-clause-only
returns-clause-only c =
    let kept = all_kept (SpellsDatum (tree_of c.args.shape.now) c.args.bytes.now) c.in_ok-read.read.0 _ c.in_ok-read.ensures.read in
    only_value c.args.shape.now c.args.bytes.now c.in_ok-read.read.0 kept.1 (returns-clause-whole c)
