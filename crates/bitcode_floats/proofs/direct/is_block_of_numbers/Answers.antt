-- Sixteen floats more.
use Rattle.std.proofs.Common.{◌≡◌, ◌*◌, All, take, subst, arith}
use Rattle.std.specs.Float.{NotNan}
use Rattle.std.proofs.lemmas.List.{take_all}
use Rattle.bitcode_floats.proofs.NumberLemmas.{sixteen_more}
use Rattle.bitcode_floats.proofs.direct.is_block_of_numbers.Goals as goal

pub loop-sixteen-preserved : goal.loop-sixteen-preserved
loop-sixteen-preserved c =
    sixteen_more c.args.floats.now c.loop-sixteen.sixteen c.four_at-first.result c.four_at-second.result c.four_at-third.result c.four_at-fourth.result
    c.four_at-first.ensures.items c.four_at-second.ensures.items c.four_at-third.ensures.items c.four_at-fourth.ensures.items
    c.loop-sixteen.invariant (c.are_numbers.ensures c.if-not-are_numbers.false)

pub returns : goal.returns
returns c =
    let all : take (16 * c.loop-sixteen.sixteen) c.args.floats.now ≡ c.args.floats.now = take_all (16 * c.loop-sixteen.sixteen) c.args.floats.now (omega (arith, c.told-floats, c.loop-sixteen-test.false)) in
    λ true. subst (All NotNan) all c.loop-sixteen.invariant
