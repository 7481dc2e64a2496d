use Rattle.std.proofs.Common.{◌≡◌, ◌*◌, ◌%◌, ◌^◌, length, take, map, All}
use Rattle.bitcode_memory.specs.LittleEndian.{raw_text}
use Rattle.bitcode_memory.specs.Ints.{IsNumber}
use Rattle.bitcode_int_columns.specs.Narrowing.{above}
use Rattle.bitcode_int_columns.proofs.pack_ints.write.put_numbers.Given as goal

abbrev pub invariant-loop-place : goal.invariant-loop-place
invariant-loop-place g l = record {
  written : take (l.place * g.N.SizedUInt.width) l.bytes
      ≡ raw_text g.N.SizedUInt.width (map (λ e. above g.T.Int.width (g.T.Unsigned.SizedUInt.value l.base) (g.T.Int.number e) % 256 ^ g.N.SizedUInt.width) (take l.place l.entries));
  in_range : All (λ e. IsNumber g.T.Int.width g.T.Int.signed (g.T.Int.number e)) (take l.place l.entries);
  size : length l.bytes ≡ length l.entries * g.N.SizedUInt.width;
}
