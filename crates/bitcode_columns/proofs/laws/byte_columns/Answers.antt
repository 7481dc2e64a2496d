-- The laws of byte columns.
use Rattle.std.proofs.Common.{refl}
use Rattle.std.proofs.lemmas.List.{length-map}
use Rattle.bitcode_memory.specs.Ints.{residue}
use Rattle.bitcode_columns.specs.ByteColumn.{byte_text}
use Rattle.bitcode_columns.proofs.ByteColumnLemmas.{SpellsBytes-unambiguous, SpellsBytes-size_bound, bytes_fault-refuses, byte_text-spells, length-byte_text}
use Rattle.bitcode_columns.proofs.laws.byte_columns.Goals as goal

pub returns-clause-round_trip : goal.returns-clause-round_trip
returns-clause-round_trip c signed entries rest each =
    record { size = length-map entries (residue 1); piece = byte_text entries; whole = refl; spelled = byte_text-spells.back signed entries each }

pub returns-clause-unambiguous : goal.returns-clause-unambiguous
returns-clause-unambiguous c = SpellsBytes-unambiguous

pub returns-clause-size_bound : goal.returns-clause-size_bound
returns-clause-size_bound c = SpellsBytes-size_bound

pub returns-clause-refused : goal.returns-clause-refused
returns-clause-refused c = bytes_fault-refuses

pub returns-clause-at_most : goal.returns-clause-at_most
returns-clause-at_most c = length-byte_text
