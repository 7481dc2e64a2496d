-- The variants of the options so far.
use Rattle.std.proofs.Common.{◌≡◌, map, take}
use Rattle.bitcode_schema.specs.Choosing.{option_variant}
use Rattle.bitcode_schema.specs.Views.{boxed}
use Rattle.bitcode_schema.proofs.write.gather.option_variants.Given as goal

abbrev pub invariant-loop-option : goal.invariant-loop-option
invariant-loop-option l = l.variants.items ≡ map option_variant (map (λ h. boxed h.now) (take l.option-index l.options))
