-- The items so far were added.
use Rattle.std.proofs.Common.{◌≡◌, ◌++◌, map, take}
use Rattle.bitcode_schema.proofs.write.gather.push_each.Given as goal

abbrev pub invariant-loop-item : goal.invariant-loop-item
invariant-loop-item l = map (λ v. v.now) l.parts.items ≡ map (λ v. v.now) l.initial.parts.items ++ take l.item-index l.items
