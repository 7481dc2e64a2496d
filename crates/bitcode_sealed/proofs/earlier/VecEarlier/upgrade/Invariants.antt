use Rattle.std.specs.Vec.Iter.{into_iter_items}
use Rattle.bitcode_sealed.proofs.UpgradeLemmas.{MadeFront}
use Rattle.bitcode_sealed.proofs.earlier.VecEarlier.upgrade.Given as goal

abbrev pub invariant-loop-each : goal.invariant-loop-each
invariant-loop-each g l = MadeFront g.T.Earlier.is_upgrade l.fn.before.items (into_iter_items l.each-iterator) l.items.items
