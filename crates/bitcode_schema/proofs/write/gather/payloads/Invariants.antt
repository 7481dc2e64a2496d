-- The payloads among the enums so far.
use Rattle.std.proofs.Common.{◌≡◌, map, take}
use Rattle.bitcode_schema.specs.Choosing.{of_variant}
use Rattle.bitcode_schema.specs.Views.{variant_in, payload_in}
use Rattle.bitcode_schema.proofs.write.gather.payloads.Given as goal

abbrev pub invariant-loop-entry : goal.invariant-loop-entry
invariant-loop-entry l = map (λ v. v.now) l.parts.items ≡ map payload_in (of_variant variant_in l.variant (map (λ h. (h.0, h.1.now)) (take l.entry-index l.enums)))
