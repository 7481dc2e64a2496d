-- What the values so far hold.
use Rattle.std.proofs.Common.{map, take}
use Rattle.bitcode_schema.specs.Views.{Hold, enum_of}
use Rattle.bitcode_schema.proofs.write.cases.enums.Given as goal

abbrev pub invariant-loop-value : goal.invariant-loop-value
invariant-loop-value l = Hold enum_of (map (λ v. v.now) (take l.value-index l.values)) (map (λ h. (h.0, h.1.now)) l.held.items)
