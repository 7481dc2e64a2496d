-- Room was reserved behind the same values.
use Rattle.bitcode_serde.proofs.column.Column.take_behind.Goals as goal

pub returns-clause-taken : goal.returns-clause-taken
returns-clause-taken c = rw (← c.reserve.ensures.items) c.push_next.ensures.taken
