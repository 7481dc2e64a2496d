use Rattle.std.proofs.Common.{All, take}
use Rattle.bitcode_memory.specs.LittleEndian.{little_endian}
use Rattle.bitcode_memory.specs.Ints.{number_of}
use Rattle.bitcode_shapes.specs.Shape.{IsAllowed}
use Rattle.bitcode_ints.proofs.checked.are_allowed.Given as goal

abbrev pub invariant-loop-entry : goal.invariant-loop-entry
invariant-loop-entry g l =
    All (λ entry. IsAllowed g.C.Checked.allowed (number_of g.I.ColumnInt.width g.I.ColumnInt.signed (little_endian (g.I.ColumnInt.une_bytes entry)))) (take l.entry-index l.entries)
