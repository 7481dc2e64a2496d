-- The pairs so far were added.
use Rattle.std.proofs.Common.{◌≡◌, ◌++◌, map, take}
use Rattle.bitcode_schema.specs.Views.{key_in, value_in}
use Rattle.bitcode_schema.proofs.write.gather.push_pairs.Given as goal

abbrev pub invariant-loop-pair : goal.invariant-loop-pair
invariant-loop-pair l = record {
  keys : map (λ v. v.now) l.keys.items ≡ map (λ v. v.now) l.initial.keys.items ++ map key_in (take l.pair-index l.pairs);
  values : map (λ v. v.now) l.parts.items ≡ map (λ v. v.now) l.initial.parts.items ++ map value_in (take l.pair-index l.pairs);
}
