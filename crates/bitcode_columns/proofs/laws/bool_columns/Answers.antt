-- The laws of bool columns.
use Rattle.std.proofs.Common.{refl}
use Rattle.bitcode_columns.specs.BoolColumn.{bool_text}
use Rattle.bitcode_columns.proofs.BoolColumnLemmas.{SpellsBools-unambiguous, SpellsBools-size_bound, bools_fault-refuses, bool_text-spells}
use Rattle.bitcode_columns.proofs.laws.bool_columns.Goals as goal

pub returns-clause-round_trip : goal.returns-clause-round_trip
returns-clause-round_trip c entries rest = record { size = refl; piece = bool_text entries; whole = refl; spelled = bool_text-spells entries }

pub returns-clause-unambiguous : goal.returns-clause-unambiguous
returns-clause-unambiguous c = SpellsBools-unambiguous

pub returns-clause-size_bound : goal.returns-clause-size_bound
returns-clause-size_bound c = SpellsBools-size_bound

pub returns-clause-refused : goal.returns-clause-refused
returns-clause-refused c = bools_fault-refuses
