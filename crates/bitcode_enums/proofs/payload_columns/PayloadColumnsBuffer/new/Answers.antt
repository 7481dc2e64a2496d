-- No columns have entries.
use Rattle.bitcode_enums.proofs.ColumnLemmas.{bare_all}
use Rattle.bitcode_enums.proofs.payload_columns.PayloadColumnsBuffer.new.Goals as goal

pub returns-clause-empty : goal.returns-clause-empty
returns-clause-empty g c = bare_all (g.C.HoldsVariantColumns.columns.lists c.new.result) c.new.ensures.empty
