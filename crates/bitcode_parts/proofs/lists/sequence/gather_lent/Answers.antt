use Rattle.std.proofs.Common.{◌≡◌, ◌++◌, map, take, subst, arith}
use Rattle.bitcode_parts.proofs.lists.sequence.gather_lent.Goals as goal

pub returns-clause-taken : goal.returns-clause-taken
returns-clause-taken g c =
    let all : c.loop-count.count ≡ 32 = omega arith in
    subst (λ n. map (λ item. item.now) (take 1 c.args.several.now) ++ g.L.Lends.rest c.args.lent.now ≡ map (λ item. item.now) (take n c.loop-count.several) ++ g.L.Lends.rest c.loop-count.lent) all c.loop-count.invariant.taken
