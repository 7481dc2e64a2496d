use Rattle.bitcode_columns.proofs.SingleLemmas.{NUMBERS_at}
use Rattle.bitcode_columns.proofs.single.single_number.Goals as goal

pub returns : goal.returns
returns c = NUMBERS_at c.args.number c.requires
