use Rattle.std.proofs.Common.{◌≡◌, ◌+◌, ◌*◌, ◌%◌, ◌^◌, ◌≤◌, map, drop, vec_len, vec_capacity}
use Rattle.std.specs.Simd.{first_chunks}
use Rattle.bitcode_memory.specs.LittleEndian.{little_endian}
use Rattle.bitcode_int_columns.proofs.pack_ints.read.widen_numbers.Given as goal

abbrev pub invariant-loop-i : goal.invariant-loop-i
invariant-loop-i g l = record {
  left : l.rest ≡ drop (l._i * g.N.SizedUInt.width) l.bytes;
  widened : map (λ u. little_endian (g.T.Int.une_bytes u)) l.entries.items
      ≡ map (λ n. (n + g.T.Unsigned.SizedUInt.value l.least) % 256 ^ g.T.Int.width) (map little_endian (first_chunks g.N.SizedUInt.width l._i l.bytes));
  size : vec_len l.entries ≡ l._i;
  room : l.count ≤ vec_capacity l.entries;
}
