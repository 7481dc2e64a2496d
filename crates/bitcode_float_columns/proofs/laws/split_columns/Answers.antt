-- The laws of columns of the bits of 4-byte floats.
use Rattle.bitcode_float_columns.proofs.SplitLemmas.{split_text-read, SpellsSplit-unambiguous, SpellsSplit-size_bound, missing-refuses_split}
use Rattle.bitcode_float_columns.proofs.laws.split_columns.Goals as goal

pub returns-clause-round_trip : goal.returns-clause-round_trip
returns-clause-round_trip c = split_text-read

pub returns-clause-unambiguous : goal.returns-clause-unambiguous
returns-clause-unambiguous c = SpellsSplit-unambiguous

pub returns-clause-size_bound : goal.returns-clause-size_bound
returns-clause-size_bound c = SpellsSplit-size_bound

pub returns-clause-refused : goal.returns-clause-refused
returns-clause-refused c = missing-refuses_split
