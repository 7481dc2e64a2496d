-- Lengths are read as numbers.
use Rattle.std.proofs.Common.{None}
use Rattle.std.proofs.lemmas.Result.{err_from_is_err_and}
use Rattle.bitcode_coder.specs.Columns.{lengths}
use Rattle.bitcode_serde.specs.ReadColumns.{IsColumnRefusal}
use Rattle.bitcode_serde.proofs.ColumnLemmas.{passed_on, lengths_column_read, lengths_column_judged, lengths_column_refused}
use Rattle.bitcode_serde.proofs.read_column.read_lengths.Goals as goal

pub returns-in_err-written-clause-refused : goal.returns-in_err-written-clause-refused
returns-in_err-written-clause-refused c =
    let y = err_from_is_err_and c.from_residual.result c.from_residual.ensures.1 in
    let e = c.in_err-written.field-0.0 in
    passed_on (λ e. IsColumnRefusal (lengths None) e.reason c.args.count c.args.input.now.now) c.from_residual.result e y.0 y.1 y.2
    (lengths_column_refused e.reason c.args.count c.args.input.now.now c.in_err-written.ensures.refused)

pub returns-clause-read : goal.returns-clause-read
returns-clause-read c = lengths_column_read c.args.count c.args.input.now.now _ _ c.in_ok-written.ensures.read

pub returns-clause-judged : goal.returns-clause-judged
returns-clause-judged c = λ strict.
    lengths_column_judged _ c.args.count c.args.input.now.now _ _ c.in_ok-written.ensures.read (c.in_ok-written.ensures.judged strict)
