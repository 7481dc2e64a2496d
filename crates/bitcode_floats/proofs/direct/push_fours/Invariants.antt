use Rattle.std.proofs.Common.{◌≡◌, ◌+◌, ◌*◌, ◌++◌, take, map, vec_len, vec_capacity}
use Rattle.std.specs.Prelude.{to_bits}
use Rattle.std.specs.Float.{binary64}
use Rattle.bitcode_memory.specs.LittleEndian.{raw_text}
use Rattle.bitcode_floats.proofs.direct.push_fours.Given as goal

abbrev pub invariant-loop-block : goal.invariant-loop-block
invariant-loop-block l = record {
  written : l.out.items ≡ l.initial.out.items ++ raw_text 8 (map (λ x. to_bits binary64 x) (take (4 * l.block) l.floats));
  len : vec_len l.out ≡ vec_len l.initial.out + 32 * l.block;
  capacity : vec_capacity l.out ≡ vec_capacity l.initial.out;
}
