-- What the values so far hold.
use Rattle.std.proofs.Common.{map, take}
use Rattle.bitcode_schema.specs.Views.{Hold, boxed, option_of}
use Rattle.bitcode_schema.proofs.write.cases.options.Given as goal

abbrev pub invariant-loop-value : goal.invariant-loop-value
invariant-loop-value l = Hold option_of (map (λ v. v.now) (take l.value-index l.values)) (map (λ h. boxed h.now) l.held.items)
