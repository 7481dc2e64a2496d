use Rattle.std.proofs.Common.{◌≡◌, ◌++◌, map, take, subst, arith}
use Rattle.std.specs.Map.Iter.{deref_pair}
use Rattle.bitcode_parts.proofs.maps.gather_pairs.Goals as goal

pub returns-clause-taken : goal.returns-clause-taken
returns-clause-taken g c =
    let all : c.loop-count.count ≡ 32 = omega arith in
    subst (λ n. map deref_pair (take 1 c.args.pairs.now) ++ g.L.LendsPairs.rest c.args.lent.now ≡ map deref_pair (take n c.loop-count.pairs) ++ g.L.LendsPairs.rest c.loop-count.lent) all c.loop-count.invariant.taken
