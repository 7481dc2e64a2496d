use Rattle.std.proofs.Common.{◌≡◌, ◌%◌, ◌≤◌, length, take, map, All, vec_len, vec_capacity}
use Rattle.bitcode_memory.specs.Ints.{IsNumber, number_of}
use Rattle.bitcode_int_columns.specs.Narrowing.{above}
use Rattle.bitcode_int_columns.proofs.pack_ints.write.narrow_bytes.Given as goal

abbrev pub invariant-loop-entry : goal.invariant-loop-entry
invariant-loop-entry g l = record {
  numbers : map g.B.Int.number l.bytes.items
      ≡ map (λ e. number_of 1 g.B.Int.signed (above g.T.Int.width (g.T.Unsigned.SizedUInt.value l.base) (g.T.Int.number e) % 256)) (take l.entry-index l.entries);
  in_range : All (λ e. IsNumber g.T.Int.width g.T.Int.signed (g.T.Int.number e)) (take l.entry-index l.entries);
  size : vec_len l.bytes ≡ l.entry-index;
  room : length l.entries ≤ vec_capacity l.bytes;
}
