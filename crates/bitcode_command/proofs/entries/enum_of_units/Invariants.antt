-- So many units.
use Rattle.std.proofs.Common.{◌≡◌, length, All}
use Rattle.bitcode_command.proofs.EntryLemmas.{IsUnit}
use Rattle.bitcode_command.proofs.entries.enum_of_units.Given as goal

abbrev pub invariant-loop : goal.invariant-loop
invariant-loop l = (length l.units.items ≡ l.counter) × All IsUnit l.units.items
