use Rattle.bitcode_columns.proofs.BoolColumnLemmas.{bool_text-is}
use Rattle.bitcode_columns.proofs.pack.pack_bools.Goals as goal

pub returns-clause-written : goal.returns-clause-written
returns-clause-written c = rw (bool_text-is c.args.bools.now) c.pack_digits.ensures.written

pub returns-clause-full : goal.returns-clause-full
returns-clause-full c = rw (bool_text-is c.args.bools.now) c.pack_digits.ensures.full
