-- Node by node.
use Rattle.std.proofs.Common.{◌≡◌, true, slice_get, sym, subst, ◌∙◌, ap, inl, inr}
use Rattle.bitcode_untyped.specs.Bounds.{column_free}
use Rattle.bitcode_untyped.specs.View.{tree_of_node}
use Rattle.bitcode_serde.proofs.EntryLemmas.{found_entry, some_same}
use Rattle.bitcode_serde.proofs.PlaceLemmas.{within_or_last}
use Rattle.bitcode_serde.proofs.free.skip_free.Goals as goal

pub loop-i-preserved : goal.loop-i-preserved
loop-i-preserved c = λ j n low high there.
    elim (within_or_last j c.loop-i.i high) [
      | inl k ↦ c.loop-i.invariant j n low k there
      | inr e ↦
          let this = found_entry c.args.nodes.now c.loop-i.i c.index-nodes-i.result c.loop-i-test.true c.index-nodes-i.is in
          let same = some_same n c.index-nodes-i.result (sym there ∙ ap (slice_get c.args.nodes.now) e ∙ this) in
          subst (λ m. column_free (tree_of_node c.args.left c.args.table.now m) ≡ true) (sym same) (sym c.lacks_columns.ensures ∙ c.if-not-lacks_columns.false)
    ]
