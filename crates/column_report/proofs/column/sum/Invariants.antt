-- What was added and what is left make up the sum, and each entry is below 2^32.
use Rattle.std.proofs.Common.{◌≡◌, ◌+◌, ◌*◌, ◌^◌, ◌≤◌, length}
use Rattle.column_report.specs.Table.{total_of}
use Rattle.column_report.proofs.column.sum.Given as goal

abbrev pub invariant-loop-row : goal.invariant-loop-row
invariant-loop-row g l = record {
  left : length (g.D.HoldsData.held l.column) + l._row ≡ l.fn.count;
  added : l.total + total_of (g.D.HoldsData.held l.column) ≡ total_of (g.D.HoldsData.held l.fn.column);
  bounded : l.total ≤ l._row * 2 ^ 32;
}
