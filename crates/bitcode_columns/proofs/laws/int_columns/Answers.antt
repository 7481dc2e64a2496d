-- The laws of integer columns.
use Rattle.std.proofs.Common.{refl}
use Rattle.std.proofs.lemmas.List.{length-map}
use Rattle.bitcode_memory.specs.Ints.{residue}
use Rattle.bitcode_columns.specs.IntColumn.{int_text}
use Rattle.bitcode_memory.proofs.IntLemmas.{number_of-residue}
use Rattle.bitcode_columns.proofs.IntColumnLemmas.{SpellsInts-unambiguous, SpellsInts-size_bound, ints_fault-refuses, int_text-spells, length-int_text}
use Rattle.bitcode_columns.proofs.laws.int_columns.Goals as goal

pub returns-clause-round_trip : goal.returns-clause-round_trip
returns-clause-round_trip c width of signed entries rest each =
    record { size = length-map entries (residue width); piece = int_text width entries; whole = refl; spelled = (int_text-spells width of).back signed entries each }

pub returns-clause-unambiguous : goal.returns-clause-unambiguous
returns-clause-unambiguous c = SpellsInts-unambiguous

pub returns-clause-size_bound : goal.returns-clause-size_bound
returns-clause-size_bound c = SpellsInts-size_bound

pub returns-clause-refused : goal.returns-clause-refused
returns-clause-refused c = ints_fault-refuses

pub returns-clause-at_most : goal.returns-clause-at_most
returns-clause-at_most c = length-int_text

pub returns-clause-numbers : goal.returns-clause-numbers
returns-clause-numbers c = number_of-residue
