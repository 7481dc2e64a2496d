-- The elements fit.
use Rattle.std.proofs.Common.{◌≤◌, ◌∙◌, length, subst, arith}
use Rattle.bitcode_memory.specs.declared.error.Reason.TheVariants.{InvalidArrayVec}
use Rattle.bitcode_serde_types.proofs.NotedLemmas.{limited_written}
use Rattle.bitcode_serde_types.proofs.fixed_capacity.ArrayVecSerializeAs.write.Goals as goal

pub returns : goal.returns
returns g c =
    limited_written (g.T.HasShape.tree c.args.left) g.T.HasShape.datum 0 g.row.N InvalidArrayVec c.args.writer.now c.args.place _ c.args.self.now.items
    c.write_lent.result c.write_lent.new.writer (c.iter.ensures.rest ∙ c.as_slice.ensures.value) (omega arith)
    (subst (λ xs. length xs ≤ g.row.N) c.as_slice.ensures.value c.as_slice.ensures.fits) c.write_lent.ensures
