-- Bytes are read as numbers of that width.
use Rattle.std.proofs.Common.{false, refl}
use Rattle.std.proofs.lemmas.Result.{err_from_is_err_and}
use Rattle.bitcode_coder.specs.Columns.{ints}
use Rattle.bitcode_shapes.specs.Ints.{int_shape}
use Rattle.bitcode_serde.specs.ColumnReasons.{numbers_reason}
use Rattle.bitcode_serde.specs.ReadColumns.{IsColumnRefusal}
use Rattle.bitcode_serde.specs.declared.column.ColumnKind.TheVariants as kind
use Rattle.bitcode_serde.proofs.ColumnLemmas.{passed_on, column_read, column_refused}
use Rattle.bitcode_serde.proofs.read_column.read_bytes.Goals as goal

pub returns-in_err-written-clause-refused : goal.returns-in_err-written-clause-refused
returns-in_err-written-clause-refused c =
    let y = err_from_is_err_and c.from_residual.result c.from_residual.ensures.1 in
    let e = c.in_err-written.field-0.0 in
    passed_on (λ e. IsColumnRefusal (ints 1 false) e.reason c.args.count c.args.input.now.now) c.from_residual.result e y.0 y.1 y.2
    (column_refused (int_shape 1 false) kind.Bytes (λ ds. refl) c.args.count e.reason c.args.input.now.now (λ d is. is)
    (numbers_reason 1 false e.reason c.args.count c.args.input.now.now c.in_err-written.ensures.exact) c.in_err-written.ensures.refused)

pub returns-clause-read : goal.returns-clause-read
returns-clause-read c =
    column_read (int_shape 1 false) kind.Bytes (λ ds. refl) c.args.count c.args.input.now.now _ _ c.in_ok-written.ensures.read
