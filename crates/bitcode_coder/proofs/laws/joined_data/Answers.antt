-- The columns of joined lists.
use Rattle.bitcode_coder.proofs.LawLemmas.{joins_column_by_column}
use Rattle.bitcode_coder.proofs.laws.joined_data.Goals as goal

pub returns : goal.returns
returns c = joins_column_by_column
