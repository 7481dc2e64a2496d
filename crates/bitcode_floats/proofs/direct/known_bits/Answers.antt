-- Each float was looked at.
use Rattle.std.proofs.Common.{◌^◌, ◌<◌, All, subst, arith}
use Rattle.std.specs.Prelude.{to_bits}
use Rattle.std.specs.Float.{Float, binary64, nan}
use Rattle.std.proofs.lemmas.List.{take_all}
use Rattle.std.proofs.lemmas.List.Elements.{All-more}
use Rattle.bitcode_floats.proofs.direct.known_bits.Goals as goal

abbrev Fits8 : Float → Type 0
Fits8 x = to_bits binary64 x < 256 ^ 8

pub loop-float-preserved : goal.loop-float-preserved
loop-float-preserved c =
    All-more Fits8 c.args.floats.now c.loop-float.float-index nan c.loop-float-test.true c.loop-float.invariant
    (subst (λ n. n < 256 ^ 8) c.f64_to_bits_with_nan-bits.ensures (omega arith))

pub returns : goal.returns
returns c = subst (All Fits8) (take_all c.loop-float.float-index c.args.floats.now c.loop-float-test.false) c.loop-float.invariant
