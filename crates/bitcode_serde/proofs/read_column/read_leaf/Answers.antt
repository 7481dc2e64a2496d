-- The column is read, or refused, as its decoder says of data of the shape.
use Rattle.std.proofs.Common.{subst}
use Rattle.std.proofs.lemmas.Result.{err_from_is_err_and}
use Rattle.bitcode_coder.specs.Coder.{IsReadingRefusal}
use Rattle.bitcode_coder.specs.FirstFault.{IsFirstFault}
use Rattle.bitcode_serde.specs.ReadColumns.{kind_of, IsColumnRefusal}
use Rattle.bitcode_serde.proofs.ColumnLemmas.{passed_on, column_read, column_refused}
use Rattle.bitcode_serde.proofs.read_column.read_leaf.Goals as goal

pub returns-in_err-written-clause-refused : goal.returns-in_err-written-clause-refused
returns-in_err-written-clause-refused g c =
    let y = err_from_is_err_and c.from_residual.result c.from_residual.ensures.1 in
    let laws = g.met.T.Case.laws in
    let e = c.in_err-written.field-0.0 in
    passed_on (λ e. IsColumnRefusal (kind_of g.T.Case.kind) e.reason c.args.count c.args.input.now.now) c.from_residual.result e y.0 y.1 y.2
    (column_refused g.T.Shaped.data.shape g.T.Case.kind laws.columns c.args.count e.reason c.args.input.now.now laws.of_shape
    (laws.reason _ _ _ (subst (λ s. IsFirstFault s e.reason c.args.count c.args.input.now.now) g.met.D.Decoder.same_shape c.in_err-written.ensures.exact))
    (subst (λ s. IsReadingRefusal s e.reason c.args.count c.args.input.now.now) g.met.D.Decoder.same_shape c.in_err-written.ensures.refused))

pub returns-clause-read : goal.returns-clause-read
returns-clause-read g c =
    column_read g.T.Shaped.data.shape g.T.Case.kind g.met.T.Case.laws.columns c.args.count c.args.input.now.now _ _
    (rw g.met.D.Decoder.same_shape at c.in_ok-written.ensures.read)

pub returns-clause-judged : goal.returns-clause-judged
returns-clause-judged g c = λ strict. rw (g.met.D.Decoder.same_shape, g.met.T.Case.laws.one_column) at (c.in_ok-written.ensures.judged strict)
