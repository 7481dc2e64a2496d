use Rattle.std.proofs.Common.{◌≡◌, ◌+◌, ◌*◌, ◌≤◌, length, map, take}
use Rattle.bitcode_coder.specs.Coder.{JoinsEach}
use Rattle.bitcode_coder.specs.Columns.{emptied}
use Rattle.bitcode_coder.specs.Length.{written_lengths, length_room}
use Rattle.bitcode_parts.specs.Lists.{list_columns}
use Rattle.bitcode_parts.proofs.lists.vec.push_short.Given as goal

abbrev pub invariant-loop-item : goal.invariant-loop-item
invariant-loop-item g l = record {
  count : l.count ≡ l.item-index;
  joined : JoinsEach g.S.Shaped.data.lists g.S.Shaped.data.shape (map (g.W.Part.of l.which) (take l.item-index l.items))
      (list_columns (written_lengths l.initial.sizes) (g.E.HoldsColumns.columns l.initial.elements))
      (list_columns (written_lengths l.sizes) (g.E.HoldsColumns.columns l.elements));
  sizes : length_room l.initial.sizes ≡ length_room l.sizes + l.item-index;
  room : 15 * length l.items ≤ g.E.HoldsColumns.room l.elements + 15 * l.item-index;
  form : emptied (g.E.HoldsColumns.columns l.elements) ≡ emptied (g.E.HoldsColumns.columns l.initial.elements);
}
