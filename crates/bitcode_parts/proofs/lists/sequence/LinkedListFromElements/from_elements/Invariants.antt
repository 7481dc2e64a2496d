use Rattle.std.proofs.Common.{◌≡◌, ◌++◌}
use Rattle.std.specs.Vec.Iter.{into_iter_items}
use Rattle.bitcode_parts.proofs.lists.sequence.LinkedListFromElements.from_elements.Given as goal

abbrev pub invariant-loop-element : goal.invariant-loop-element
invariant-loop-element g l = l.list ++ into_iter_items l.element-iterator ≡ l.fn.elements.items
