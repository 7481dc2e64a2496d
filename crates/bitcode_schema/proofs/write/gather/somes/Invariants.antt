-- What the options so far hold.
use Rattle.std.proofs.Common.{◌≡◌, Some, map, take}
use Rattle.bitcode_schema.specs.Choosing.{of_variant, option_variant}
use Rattle.bitcode_schema.specs.Views.{boxed}
use Rattle.bitcode_schema.proofs.write.gather.somes.Given as goal

abbrev pub invariant-loop-option : goal.invariant-loop-option
invariant-loop-option l = of_variant option_variant 1 (map (λ h. boxed h.now) (take l.option-index l.options)) ≡ map (λ v. Some v.now) l.parts.items
