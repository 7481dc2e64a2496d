use Rattle.std.proofs.Common.{length, take}
use Rattle.std.specs.Prelude.{Ok}
use Rattle.bitcode_serde_types.proofs.AlikeLemmas.{AlikeOutcome}
use Rattle.bitcode_serde_types.proofs.arrays.write_alike.Given as goal

abbrev pub invariant-loop-i : goal.invariant-loop-i
invariant-loop-i g l =
    AlikeOutcome (g.T.HasShape.tree l.left) g.T.HasShape.datum l.initial.writer l.place (length l.items) (take l.i l.items) (Ok (tt {0})) l.writer
