-- The heap holds the elements in an order of its own.
use Rattle.std.specs.BinaryHeap.{heap_items}
use Rattle.std.proofs.lemmas.List.Sorted.{IsPermutation-sym}
use Rattle.bitcode_parts.proofs.heaps.BinaryHeapFromElements.from_elements.Goals as goal

pub returns-clause-made : goal.returns-clause-made
returns-clause-made g c = λ d making. record {
  order = c.args.elements.items;
  reordered = IsPermutation-sym c.args.elements.items (heap_items c.from.result) c.from.ensures.1;
  making = making;
}
