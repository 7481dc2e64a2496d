use Rattle.std.specs.Prelude.{◌≡◌, ◌≤◌, length, map, take, vec_len, vec_capacity}
use Rattle.bitcode_memory.specs.LittleEndian.{little_endian}
use Rattle.bitcode_memory.specs.Ints.{number_of}
use Rattle.bitcode_ints.proofs.int.ints_of.Given as goal

abbrev pub invariant-loop-bytes : goal.invariant-loop-bytes
invariant-loop-bytes g l = record {
  numbers : map g.T.ColumnInt.number l.ints.items ≡ map (λ u. number_of g.T.ColumnInt.width g.T.ColumnInt.signed (little_endian (g.T.ColumnInt.une_bytes u))) (take l.bytes-index l.unaligned);
  size : vec_len l.ints ≡ l.bytes-index;
  room : length l.unaligned ≤ vec_capacity l.ints;
}
