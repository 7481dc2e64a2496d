-- What the values so far hold.
use Rattle.std.proofs.Common.{map, take}
use Rattle.bitcode_schema.specs.Views.{Hold, fields_of}
use Rattle.bitcode_schema.proofs.write.cases.tuples.Given as goal

abbrev pub invariant-loop-value : goal.invariant-loop-value
invariant-loop-value l = Hold fields_of (map (λ v. v.now) (take l.value-index l.values)) (map (λ h. h.now) l.held.items)
