use Rattle.std.proofs.Common.{◌≡◌, ◌+◌, ◌%◌, ◌^◌, ◌≤◌, length, map, take, vec_len, vec_capacity}
use Rattle.bitcode_memory.specs.LittleEndian.{little_endian}
use Rattle.bitcode_int_columns.proofs.pack_ints.read.widen_bytes.Given as goal

abbrev pub invariant-loop-byte : goal.invariant-loop-byte
invariant-loop-byte g l = record {
  widened : map (λ u. little_endian (g.T.Int.une_bytes u)) l.entries.items
      ≡ map (λ n. (n + g.T.Unsigned.SizedUInt.value l.least) % 256 ^ g.T.Int.width) (take l.byte-index l.bytes);
  size : vec_len l.entries ≡ l.byte-index;
  room : length l.bytes ≤ vec_capacity l.entries;
}
