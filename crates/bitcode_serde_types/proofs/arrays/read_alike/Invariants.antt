use Rattle.std.proofs.Common.{◌≡◌, ◌-◌, length, map}
use Rattle.bitcode_serde_types.specs.Arrays.{repeated}
use Rattle.bitcode_serde_types.proofs.FieldsRead.{FieldsKept}
use Rattle.bitcode_serde_types.proofs.arrays.read_alike.Given as goal

abbrev pub invariant-loop-i : goal.invariant-loop-i
invariant-loop-i g l =
    FieldsKept (repeated l.count (g.T.HasShape.tree l.left)) l.place l.initial.reader l.initial.budget l.i (map g.T.HasShape.datum l.items.items)
    (repeated (l.count - l.i) (g.T.HasShape.tree l.left)) l.reader l.budget
    × (length l.items.items ≡ l.i)
