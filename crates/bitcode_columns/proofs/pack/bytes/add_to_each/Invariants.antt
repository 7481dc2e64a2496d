use Rattle.std.proofs.Common.{◌≡◌, ◌+◌, ◌%◌, ◌++◌, map, take, drop}
use Rattle.bitcode_columns.proofs.pack.bytes.add_to_each.Given as goal

abbrev pub invariant-loop-entry : goal.invariant-loop-entry
invariant-loop-entry l = l.entry-items ≡ map (λ entry. (entry + l.number) % 256) (take l.entry-index l.initial.entry-items) ++ drop l.entry-index l.initial.entry-items
