use Rattle.std.proofs.Common.{◌≡◌, length}
use Rattle.bitcode_serde.specs.Budget.{IsLeft}
use Rattle.bitcode_serde_types.proofs.KeptLemmas.{ElementsKept}
use Rattle.bitcode_serde_types.proofs.sequences.read_elements.Given as goal

abbrev pub invariant-loop-i : goal.invariant-loop-i
invariant-loop-i g l =
    ElementsKept g.T.HasShape.datum (g.T.HasShape.tree l.left) l.list.place l.initial.reader l.initial.budget l._i l.values.items l.reader l.budget
    × (IsLeft l.budget → length l.values.items ≡ l._i)
