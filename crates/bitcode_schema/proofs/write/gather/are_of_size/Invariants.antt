-- The lists so far have the size.
use Rattle.std.proofs.Common.{◌≡◌, All, length, map, take}
use Rattle.bitcode_schema.proofs.write.gather.are_of_size.Given as goal

abbrev pub invariant-loop-list : goal.invariant-loop-list
invariant-loop-list g l = All (λ x. length x ≡ l.size) (map (λ x. x.now) (take l.list-index l.lists))
