use Rattle.std.proofs.Common.{◌≡◌, ◌+◌, ◌*◌, ◌%◌, ◌^◌, ◌++◌, take, drop, map, All, vec_len, vec_capacity}
use Rattle.bitcode_memory.specs.LittleEndian.{raw_text}
use Rattle.bitcode_memory.specs.Ints.{IsNumber}
use Rattle.bitcode_int_columns.specs.Narrowing.{above}
use Rattle.bitcode_int_columns.proofs.pack_ints.write.push_blocks.Given as goal

abbrev pub invariant-loop-block : goal.invariant-loop-block
invariant-loop-block g l = record {
  written : l.out.items ≡ l.initial.out.items
      ++ raw_text g.N.SizedUInt.width (map (λ e. above g.T.Int.width (g.T.Unsigned.SizedUInt.value l.base) (g.T.Int.number e) % 256 ^ g.N.SizedUInt.width) (take (l._block * l.in_block) l.entries));
  in_range : All (λ e. IsNumber g.T.Int.width g.T.Int.signed (g.T.Int.number e)) (take (l._block * l.in_block) l.entries);
  rest : l.rest ≡ drop (l._block * l.in_block) l.entries;
  len : vec_len l.out ≡ vec_len l.initial.out + l._block * l.in_block * g.N.SizedUInt.width;
  capacity : vec_capacity l.out ≡ vec_capacity l.initial.out;
}
