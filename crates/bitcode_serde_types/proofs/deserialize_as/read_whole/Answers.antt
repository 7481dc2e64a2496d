-- Reading from the root.
use Rattle.std.proofs.Common.{refl}
use Rattle.std.proofs.lemmas.Result.{err_from_is_err_and}
use Rattle.bitcode_untyped.specs.Spelling.{SpellsDatum}
use Rattle.bitcode_serde.proofs.ColumnLemmas.{passed_on}
use Rattle.bitcode_serde.proofs.WholeLemmas.{spelled, more_behind}
use Rattle.bitcode_serde_types.specs.Refusals.{IsWholeRefusal}
use Rattle.bitcode_serde_types.proofs.RefusalLemmas.{none_found}
use Rattle.bitcode_serde_types.proofs.deserialize_as.read_whole.Goals as goal

pub returns-in_err-value-clause-refused : goal.returns-in_err-value-clause-refused
returns-in_err-value-clause-refused g c =
    let s = g.T.HasShape.tree 513 in
    let y = err_from_is_err_and c.from_residual.result c.from_residual.ensures.1 in
    passed_on (λ e. IsWholeRefusal s (SpellsDatum s c.args.bytes.now) e.reason) c.from_residual.result
    c.in_err-value.field-0.0 y.0 y.1 y.2
    (none_found s c.args.bytes.now c.new-reader.result _ c.new-reader.ensures.stands c.in_err-value.ensures.refused)

pub returns-then-not-is_at_end-clause-refused : goal.returns-then-not-is_at_end-clause-refused
returns-then-not-is_at_end-clause-refused g c =
    let s = g.T.HasShape.tree 513 in
    let k = c.in_ok-value.ensures.read in
    passed_on (λ e. IsWholeRefusal s (SpellsDatum s c.args.bytes.now) e.reason) c.err.result _ _ c.err.ensures refl (
      tt,
      λ other. more_behind s c.args.bytes.now k.datum c.new-reader.result c.read.new.reader c.new-reader.ensures.stands k.read c.if-not-is_at_end.ensures,
    )

pub returns-clause-read : goal.returns-clause-read
returns-clause-read g c =
    let k = c.in_ok-value.ensures.read in
    record {
      datum = k.datum;
      read = spelled (g.T.HasShape.tree 513) c.args.bytes.now k.datum c.new-reader.result c.read.new.reader c.new-reader.ensures.stands k.read
          c.if-not-is_at_end.ensures;
      taken = k.taken;
      same = k.same;
    }
