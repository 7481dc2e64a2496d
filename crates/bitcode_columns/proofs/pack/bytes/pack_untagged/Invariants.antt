use Rattle.std.proofs.Common.{◌≡◌, ◌+◌, ◌≤◌, ◌++◌, length, take, map, vec_len, vec_capacity}
use Rattle.bitcode_memory.specs.Ints.{residue}
use Rattle.bitcode_columns.proofs.pack.bytes.pack_untagged.Given as goal

abbrev pub invariant-loop-byte : goal.invariant-loop-byte
invariant-loop-byte g l = record {
  items : l.out.items ≡ l.initial.out.items ++ map (λ byte. residue 1 (g.T.Int.number byte)) (take l.byte-index l.bytes);
  len : vec_len l.out ≡ vec_len l.initial.out + l.byte-index;
  room : vec_len l.initial.out + length l.bytes ≤ vec_capacity l.out;
}
