-- Column by column.
use Rattle.bitcode_untyped.proofs.LawLemmas.{spells_once, datum_takes_an_eighth, elements_are_bounded, reads_back_datum}
use Rattle.bitcode_untyped.proofs.laws.spelled_data.Goals as goal

pub returns-clause-round_trip : goal.returns-clause-round_trip
returns-clause-round_trip c = reads_back_datum

pub returns-clause-unambiguous : goal.returns-clause-unambiguous
returns-clause-unambiguous c = spells_once

pub returns-clause-size_bound : goal.returns-clause-size_bound
returns-clause-size_bound c = datum_takes_an_eighth

pub returns-clause-bounded : goal.returns-clause-bounded
returns-clause-bounded c = elements_are_bounded
