-- The tuple's place is still there behind the fields.
use Rattle.bitcode_serde.proofs.ValueLemmas.{still_there}
use Rattle.bitcode_serde_types.proofs.read_fields.read_some.Goals as goal

pub returns-clause-there : goal.returns-clause-there
returns-clause-there g c =
    still_there c.args.reader.now c.read_fields.new.reader c.args.place c.in_ok-some.ensures.continues c.requires.place

pub returns-clause-steady : goal.returns-clause-steady
returns-clause-steady g c = c.in_ok-some.ensures.continues.steady
