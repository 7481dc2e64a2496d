use Rattle.std.specs.Vec.Iter.{into_iter_items}
use Rattle.bitcode_parts.proofs.MapLemmas.{GivesWhole}
use Rattle.bitcode_parts.proofs.maps.HashMapFromElements.from_elements.Given as goal

abbrev pub invariant-loop-key : goal.invariant-loop-key
invariant-loop-key g l = GivesWhole g.K.PartialEq.eq l.map.entries (into_iter_items l.key-iterator) l.fn.elements.items
