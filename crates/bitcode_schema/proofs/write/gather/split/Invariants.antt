-- The pairs of the maps so far.
use Rattle.std.proofs.Common.{◌≡◌, map, take}
use Rattle.std.specs.List.{flat_map}
use Rattle.bitcode_schema.specs.Views.{key_in, value_in}
use Rattle.bitcode_schema.proofs.write.gather.split.Given as goal

abbrev pub invariant-loop-map : goal.invariant-loop-map
invariant-loop-map l = record {
  keys : map (λ v. v.now) l.keys.items ≡ map key_in (flat_map (λ x. x) (map (λ x. x.now) (take l.map-index l.maps)));
  values : map (λ v. v.now) l.parts.items ≡ map value_in (flat_map (λ x. x) (map (λ x. x.now) (take l.map-index l.maps)));
}
