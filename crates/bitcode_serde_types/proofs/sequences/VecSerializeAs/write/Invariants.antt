use Rattle.std.proofs.Common.{◌≤◌, length}
use Rattle.bitcode_untyped.specs.ShapeTree.{IsOf}
use Rattle.bitcode_untyped.specs.Walk.{walk}
use Rattle.bitcode_serde.specs.Writing.{place_in}
use Rattle.bitcode_serde.proofs.WalkLemmas.{EachWritten}
use Rattle.bitcode_serde_types.specs.DeepFaults.{deep_faults}
use Rattle.bitcode_serde_types.proofs.sequences.VecSerializeAs.write.Given as goal

abbrev pub invariant-loop-value : goal.invariant-loop-value
invariant-loop-value g l =
    (l.element ≤ length l.initial.writer.places.below.items)
    × EachWritten (λ v. walk (g.T.HasShape.tree l.left) (place_in l.initial.writer l.element) (g.T.HasShape.datum v))
    (λ v. IsOf (g.T.HasShape.tree l.left) (g.T.HasShape.datum v)) (λ v. deep_faults (g.T.HasShape.tree l.left) (g.T.HasShape.datum v)) l.values l.initial.writer
    l.value-index l.writer
