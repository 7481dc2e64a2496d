use Rattle.std.proofs.Common.{◌≡◌, take, map}
use Rattle.std.specs.List.{fold}
use Rattle.std.specs.Int.{int_min, int_max}
use Rattle.bitcode_memory.specs.Ints.{number_of}
use Rattle.bitcode_memory.specs.LittleEndian.{little_endian}
use Rattle.bitcode_int_columns.proofs.strict.int_bounds.Given as goal

abbrev pub invariant-loop-bytes : goal.invariant-loop-bytes
invariant-loop-bytes g l = record {
  least : g.T.Int.number l.least
      ≡ fold int_min (g.T.Int.number l.initial.least) (map (λ u. number_of g.T.Int.width g.T.Int.signed (little_endian (g.T.Int.une_bytes u))) (take l.bytes-index l.rest));
  greatest : g.T.Int.number l.greatest
      ≡ fold int_max (g.T.Int.number l.initial.least) (map (λ u. number_of g.T.Int.width g.T.Int.signed (little_endian (g.T.Int.une_bytes u))) (take l.bytes-index l.rest));
}
