-- The laws of data of any shape.
use Rattle.bitcode_coder.proofs.SpellingLemmas.{Spells-unambiguous}
use Rattle.bitcode_coder.proofs.LawLemmas.{data_read_back, data_take_an_eighth}
use Rattle.bitcode_coder.proofs.laws.all_columns.Goals as goal

pub returns-clause-round_trip : goal.returns-clause-round_trip
returns-clause-round_trip c = data_read_back

pub returns-clause-unambiguous : goal.returns-clause-unambiguous
returns-clause-unambiguous c = Spells-unambiguous

pub returns-clause-size_bound : goal.returns-clause-size_bound
returns-clause-size_bound c = data_take_an_eighth
