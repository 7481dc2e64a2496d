-- The numbers are those that were compared with 0.
use Rattle.std.proofs.Common.{Some}
use Rattle.std.proofs.lemmas.Result.{IfOk-weaker}
use Rattle.bitcode_schema.specs.Forms.{leaf_content}
use Rattle.bitcode_schema.specs.Leaves.{int_leaf, is_signed, width_of}
use Rattle.bitcode_schema.proofs.MakingLemmas.{makes_nonzeros}
use Rattle.bitcode_schema.proofs.make.leaf_values.make_nonzeros.Goals as goal

pub returns : goal.returns
returns c = record {
  made = IfOk-weaker c.make_ints.result _ _
      (λ values m.
      makes_nonzeros (width_of c.args.kind) (is_signed c.args.kind) (leaf_content (Some (int_leaf c.args.kind))) c.args.k _ _ _ _ _ values.items
      c.in_ok-read_nonzeros.ensures.read m)
      c.make_ints.ensures.made;
}
