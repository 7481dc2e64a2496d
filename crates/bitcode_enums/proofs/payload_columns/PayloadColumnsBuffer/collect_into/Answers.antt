-- All columns are written.
use Rattle.std.proofs.lemmas.Result.{on_ok_weaker}
use Rattle.bitcode_enums.proofs.ColumnLemmas.{emptied_columns, form_all}
use Rattle.bitcode_enums.proofs.payload_columns.PayloadColumnsBuffer.collect_into.Goals as goal

pub returns-clause-empty : goal.returns-clause-empty
returns-clause-empty g c =
    on_ok_weaker c.collect_all.result
    (emptied_columns (g.C.HoldsVariantColumns.columns.lists c.args.self.now.columns) (g.C.HoldsVariantColumns.columns.lists c.collect_all.new.self))
    c.collect_all.ensures.empty

pub returns-clause-form : goal.returns-clause-form
returns-clause-form g c =
    form_all (g.C.HoldsVariantColumns.columns.lists c.args.self.now.columns) (g.C.HoldsVariantColumns.columns.lists c.collect_all.new.self) c.collect_all.ensures.form
