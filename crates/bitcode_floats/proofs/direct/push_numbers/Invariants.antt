use Rattle.std.proofs.Common.{◌≡◌, ◌+◌, ◌*◌, ◌++◌, take, map, vec_len, vec_capacity}
use Rattle.std.specs.Prelude.{to_bits}
use Rattle.std.specs.Float.{binary64}
use Rattle.bitcode_memory.specs.LittleEndian.{raw_text}
use Rattle.bitcode_floats.proofs.direct.push_numbers.Given as goal

abbrev pub invariant-loop-float : goal.invariant-loop-float
invariant-loop-float l = record {
  written : l.out.items ≡ l.initial.out.items ++ raw_text 8 (map (λ x. to_bits binary64 x) (take l.float-index l.fn.floats));
  len : vec_len l.out ≡ vec_len l.initial.out + 8 * l.float-index;
  capacity : vec_capacity l.out ≡ vec_capacity l.initial.out;
}
