use Rattle.std.specs.Ordering.{eq_by_cmp}
use Rattle.bitcode_sealed.proofs.UpgradeLemmas.{InsertedFront}
use Rattle.bitcode_sealed.proofs.earlier.BTreeMapEarlier.upgrade.Given as goal

abbrev pub invariant-loop-key : goal.invariant-loop-key
invariant-loop-key g l = InsertedFront (eq_by_cmp g.K.Ord.cmp) g.T.Earlier.is_upgrade l.fn.before.entries l.key-iterator l.map.entries
