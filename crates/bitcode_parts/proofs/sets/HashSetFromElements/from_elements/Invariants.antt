use Rattle.std.proofs.Common.{◌++◌}
use Rattle.std.specs.Vec.Iter.{into_iter_items}
use Rattle.bitcode_shapes.specs.Sets.{SameMembers}
use Rattle.bitcode_parts.proofs.sets.HashSetFromElements.from_elements.Given as goal

abbrev pub invariant-loop-element : goal.invariant-loop-element
invariant-loop-element g l = SameMembers g.T.PartialEq.eq (l.set.keys ++ into_iter_items l.element-iterator) l.fn.elements.items
