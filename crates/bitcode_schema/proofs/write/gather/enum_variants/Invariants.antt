-- The variants of the enums so far.
use Rattle.std.proofs.Common.{◌≡◌, ◌<◌, All, map, take}
use Rattle.bitcode_schema.specs.Views.{variant_in}
use Rattle.bitcode_schema.proofs.write.gather.enum_variants.Given as goal

abbrev pub invariant-loop-entry : goal.invariant-loop-entry
invariant-loop-entry l = record {
  variants : l.variants.items ≡ map variant_in (map (λ h. (h.0, h.1.now)) (take l.entry-index l.enums));
  below : All (λ e. variant_in e < l.count) (map (λ h. (h.0, h.1.now)) (take l.entry-index l.enums));
}
