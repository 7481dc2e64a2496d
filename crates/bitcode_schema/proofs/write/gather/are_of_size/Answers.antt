-- A list of another size ends the loop.
use Rattle.std.proofs.Common.{◌≡◌, length}
use Rattle.bitcode_schema.proofs.LoopLemmas.{more_all, not_all, all_values}
use Rattle.bitcode_schema.proofs.write.gather.are_of_size.Goals as goal

pub returns-then-list-size : goal.returns-then-list-size
returns-then-list-size g c = not_all (λ x. length x ≡ c.args.size) (λ x. x.now) c.args.lists.now c.loop-list.list-index c.list-item.result c.loop-list-test.true c.list-item.is (λ same. c.if-list-size.true same)

pub loop-list-preserved : goal.loop-list-preserved
loop-list-preserved g c =
    more_all (λ x. length x ≡ c.args.size) (λ x. x.now) c.args.lists.now c.loop-list.list-index c.list-item.result c.loop-list-test.true c.list-item.is c.loop-list.invariant
    c.if-list-size.false

pub returns : goal.returns
returns g c = all_values (λ x. length x ≡ c.args.size) (λ x. x.now) c.args.lists.now c.loop-list.list-index c.loop-list-test.false c.loop-list.auto.list-index-end c.loop-list.invariant
