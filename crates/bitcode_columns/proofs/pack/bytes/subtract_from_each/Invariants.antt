use Rattle.std.proofs.Common.{◌≡◌, map, take, drop}
use Rattle.std.specs.Prelude.{◌-ℤ◌, unsigned_abs}
use Rattle.bitcode_memory.specs.Ints.{residue}
use Rattle.bitcode_columns.proofs.pack.bytes.subtract_from_each.Given as goal

abbrev pub invariant-loop-byte : goal.invariant-loop-byte
invariant-loop-byte g l = record {
  done : map (λ entry. residue 1 (g.T.Int.number entry)) (take l.byte-index l.bytes)
      ≡ map (λ entry. unsigned_abs (g.T.Int.number entry -ℤ g.T.Int.number l.fn.least)) (take l.byte-index l.initial.bytes);
  rest : drop l.byte-index l.bytes ≡ drop l.byte-index l.initial.bytes;
}
