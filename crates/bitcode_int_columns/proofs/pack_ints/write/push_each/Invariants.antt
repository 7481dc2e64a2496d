use Rattle.std.proofs.Common.{◌≡◌, ◌+◌, ◌*◌, ◌%◌, ◌^◌, ◌++◌, take, map, All, vec_len, vec_capacity}
use Rattle.bitcode_memory.specs.LittleEndian.{raw_text}
use Rattle.bitcode_memory.specs.Ints.{IsNumber}
use Rattle.bitcode_int_columns.specs.Narrowing.{above}
use Rattle.bitcode_int_columns.proofs.pack_ints.write.push_each.Given as goal

abbrev pub invariant-loop-entry : goal.invariant-loop-entry
invariant-loop-entry g l = record {
  written : l.out.items ≡ l.initial.out.items
      ++ raw_text g.N.SizedUInt.width (map (λ e. above g.T.Int.width (g.T.Unsigned.SizedUInt.value l.base) (g.T.Int.number e) % 256 ^ g.N.SizedUInt.width) (take l.entry-index l.entries));
  in_range : All (λ e. IsNumber g.T.Int.width g.T.Int.signed (g.T.Int.number e)) (take l.entry-index l.entries);
  len : vec_len l.out ≡ vec_len l.initial.out + l.entry-index * g.N.SizedUInt.width;
  capacity : vec_capacity l.out ≡ vec_capacity l.initial.out;
}
