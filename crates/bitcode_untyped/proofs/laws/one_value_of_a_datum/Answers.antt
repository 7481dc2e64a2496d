-- By the values, level by level.
use Rattle.bitcode_untyped.proofs.ContentLemmas.{datum_decides}
use Rattle.bitcode_untyped.proofs.laws.one_value_of_a_datum.Goals as goal

pub returns : goal.returns
returns c = datum_decides
