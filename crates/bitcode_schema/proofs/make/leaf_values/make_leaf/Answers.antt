-- All data that were read are made values.
use Rattle.std.proofs.lemmas.Result.{IfOk-weaker}
use Rattle.bitcode_schema.proofs.MakingLemmas.{makes_all}
use Rattle.bitcode_schema.proofs.make.leaf_values.make_leaf.Goals as goal

pub returns : goal.returns
returns g c = record {
  made = IfOk-weaker c.values.result _ _
      (λ vs taken. makes_all g.D.HoldsData.shape g.T.Becomes.content c.args.k _ _ _ _ vs.items c.in_ok-populate.ensures.read taken)
      c.values.ensures.made;
}
