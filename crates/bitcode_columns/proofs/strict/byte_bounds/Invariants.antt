use Rattle.std.proofs.Common.{◌≡◌, take, map}
use Rattle.std.specs.List.{fold}
use Rattle.std.specs.Int.{int_min, int_max}
use Rattle.bitcode_memory.specs.Ints.{number_of}
use Rattle.bitcode_columns.proofs.strict.byte_bounds.Given as goal

abbrev pub invariant-loop-byte : goal.invariant-loop-byte
invariant-loop-byte g l = record {
  least : g.T.Int.number l.least ≡ fold int_min (g.T.Int.number l.initial.least) (map (number_of 1 g.T.Int.signed) (take l.byte-index l.rest));
  greatest : g.T.Int.number l.greatest ≡ fold int_max (g.T.Int.number l.initial.least) (map (number_of 1 g.T.Int.signed) (take l.byte-index l.rest));
}
