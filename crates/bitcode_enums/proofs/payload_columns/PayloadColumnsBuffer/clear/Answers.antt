-- All columns are cleared.
use Rattle.bitcode_enums.proofs.ColumnLemmas.{emptied_columns}
use Rattle.bitcode_enums.proofs.payload_columns.PayloadColumnsBuffer.clear.Goals as goal

pub returns-clause-empty : goal.returns-clause-empty
returns-clause-empty g c =
    emptied_columns (g.C.HoldsVariantColumns.columns.lists c.args.self.now.columns) (g.C.HoldsVariantColumns.columns.lists c.clear_all.new.self) c.clear_all.ensures.empty
