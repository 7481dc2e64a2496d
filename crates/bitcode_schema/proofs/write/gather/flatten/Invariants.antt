-- The elements of the lists so far.
use Rattle.std.proofs.Common.{◌≡◌, map, take}
use Rattle.std.specs.List.{flat_map}
use Rattle.bitcode_schema.proofs.write.gather.flatten.Given as goal

abbrev pub invariant-loop-list : goal.invariant-loop-list
invariant-loop-list l = map (λ v. v.now) l.parts.items ≡ flat_map (λ x. x) (map (λ x. x.now) (take l.list-index l.lists))
