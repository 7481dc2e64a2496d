use Rattle.bitcode_sealed.proofs.UpgradeLemmas.{InsertedFront}
use Rattle.bitcode_sealed.proofs.earlier.HashMapEarlier.upgrade.Given as goal

abbrev pub invariant-loop-key : goal.invariant-loop-key
invariant-loop-key g l = InsertedFront g.K.PartialEq.eq g.T.Earlier.is_upgrade l.fn.before.entries l.key-iterator l.map.entries
