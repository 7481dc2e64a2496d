-- The laws of a column of any kind.
use Rattle.bitcode_coder.proofs.ColumnLemmas.{SpellsColumn-unambiguous}
use Rattle.bitcode_coder.proofs.LawLemmas.{column_read_back, column_takes_an_eighth}
use Rattle.bitcode_coder.proofs.laws.one_column.Goals as goal

pub returns-clause-round_trip : goal.returns-clause-round_trip
returns-clause-round_trip c = column_read_back

pub returns-clause-unambiguous : goal.returns-clause-unambiguous
returns-clause-unambiguous c = SpellsColumn-unambiguous

pub returns-clause-size_bound : goal.returns-clause-size_bound
returns-clause-size_bound c = column_takes_an_eighth
