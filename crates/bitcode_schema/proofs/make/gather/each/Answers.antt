-- Each turn makes one other.
use Rattle.std.proofs.Common.{arith}
use Rattle.bitcode_schema.proofs.CutLemmas.{made_all}
use Rattle.bitcode_schema.proofs.make.gather.each.Goals as goal

pub returns : goal.returns
returns g c =
    made_all g.T.Turns.turned c.args.items.items c.loop-made.items.items c.loop-made.others.items c.loop-made.invariant.each
    (omega (arith, c.loop-made.invariant.left, c.loop-made-test.false))
