-- A list of another size ends the loop.
use Rattle.std.proofs.Common.{◌≤◌, length, arith}
use Rattle.bitcode_schema.proofs.LoopLemmas.{more_all, not_all, all_values}
use Rattle.bitcode_schema.proofs.write.gather.are_within.Goals as goal

pub returns-then-list-limit : goal.returns-then-list-limit
returns-then-list-limit g c = rw c.in-Some.is (not_all (λ x. length x ≤ c.in-Some.limit) (λ x. x.now) c.args.lists.now c.loop-list.list-index c.list-item.result c.loop-list-test.true c.list-item.is (λ same. omega (arith, same, c.if-list-limit.true)))

pub loop-list-preserved : goal.loop-list-preserved
loop-list-preserved g c =
    more_all (λ x. length x ≤ c.in-Some.limit) (λ x. x.now) c.args.lists.now c.loop-list.list-index c.list-item.result c.loop-list-test.true c.list-item.is c.loop-list.invariant
    c.if-list-limit.false

pub returns : goal.returns
returns g c = rw c.in-Some.is (all_values (λ x. length x ≤ c.in-Some.limit) (λ x. x.now) c.args.lists.now c.loop-list.list-index c.loop-list-test.false c.loop-list.auto.list-index-end c.loop-list.invariant)
