use Rattle.std.proofs.Common.{take, All}
use Rattle.bitcode_memory.specs.Ints.{IsNumber}
use Rattle.bitcode_int_columns.proofs.pack_ints.append.known_numbers.Given as goal

abbrev pub invariant-loop-entry : goal.invariant-loop-entry
invariant-loop-entry g l = All (λ e. IsNumber g.T.Int.width g.T.Int.signed (g.T.Int.number e)) (take l.entry-index l.entries)
