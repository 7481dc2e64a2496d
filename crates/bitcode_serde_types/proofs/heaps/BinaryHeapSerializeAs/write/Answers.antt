-- A heap is written as the list of its elements.
use Rattle.std.proofs.Common.{◌∙◌}
use Rattle.std.specs.BinaryHeap.{heap_items}
use Rattle.bitcode_serde_types.proofs.NotedLemmas.{heap_written}
use Rattle.bitcode_serde_types.proofs.heaps.BinaryHeapSerializeAs.write.Goals as goal

pub returns : goal.returns
returns g c =
    heap_written (g.T.HasShape.tree c.args.left) g.T.HasShape.datum c.args.writer.now c.args.place _ (heap_items c.args.self.now) c.write_lent.result
    c.write_lent.new.writer (c.iter.ensures.rest ∙ c.as_slice.ensures.value) c.write_lent.ensures
