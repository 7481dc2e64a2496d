-- The lengths are compared with the limit before the texts are read.
use Rattle.bitcode_coder.specs.Length.{short_left, large_left, lengths_left}
use Rattle.std.proofs.lemmas.Result.{IfOk-weaker}
use Rattle.bitcode_coder.proofs.LimitedTextLemmas.{limited_read}
use Rattle.bitcode_schema.proofs.make.leaf_values.make_limited.Goals as goal

pub returns : goal.returns
unfolding short_left large_left lengths_left
returns c = record {
  made = IfOk-weaker c.make_leaf.result _ _
      (λ values m. record {
        found = m.found;
        read = limited_read c.args.limit c.args.k _ _ _ _ c.in_ok-populate.ensures.parts (rw c.if-exceed.false at c.exceed.ensures) m.read;
        made = m.made;
      })
      c.make_leaf.ensures.made;
}
