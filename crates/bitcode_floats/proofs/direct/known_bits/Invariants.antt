use Rattle.std.proofs.Common.{◌^◌, ◌<◌, All, take}
use Rattle.std.specs.Prelude.{to_bits}
use Rattle.std.specs.Float.{binary64}
use Rattle.bitcode_floats.proofs.direct.known_bits.Given as goal

abbrev pub invariant-loop-float : goal.invariant-loop-float
invariant-loop-float l = All (λ x. to_bits binary64 x < 256 ^ 8) (take l.float-index l.floats)
