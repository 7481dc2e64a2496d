use Rattle.bitcode_structs.specs.CheckedFields.{TakesAdmitted}
use Rattle.bitcode_structs.proofs.checked.are_taken.Given as goal

abbrev pub invariant-loop-i : goal.invariant-loop-i
invariant-loop-i g l = TakesAdmitted g.T.FromChecked.admits l._i (g.D.HoldsData.held l.initial.decoder) (g.D.HoldsData.held l.decoder)
