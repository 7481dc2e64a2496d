-- The fields or the variant, or one reference too many. Written by `scripts/second_format`.
use Rattle.std.proofs.Common.{refl, ◌∙◌}
use Rattle.bitcode_serde_types.specs.Written.{Datum}
use Rattle.bitcode_serde_types.proofs.StepsRead.{too_deep_written}
use Rattle.bitcode_recursive_types.specs.SearchTreeShape.{search_tree_tree, search_tree_step}
use Rattle.bitcode_recursive_types.specs.declared.search_tree.SearchTree.TheFolds.{fold_out-SearchTree}
use Rattle.bitcode_recursive_types.specs.declared.search_tree.SearchTree.{out-SearchTree}
use Rattle.bitcode_recursive_types.proofs.SearchTreeLemmas.{search_tree_content}
use Rattle.bitcode_recursive_types.proofs.search_tree.SearchTreeSerializeAs.+write.Goals as goal

pub returns-in_err-below : goal.returns-in_err-below
returns-in_err-below t c =
    too_deep_written search_tree_tree refl _ c.args.place c.from_residual.result c.in_err-below.field-0.0 c.from_residual.ensures.1 c.in_err-below.ensures.refused c.args.writer.now _

pub returns : goal.returns
returns t c = rw (c.in_ok-below.ensures.followed, fold_out-SearchTree Datum search_tree_step c.args.self.now ∙ search_tree_content (out-SearchTree c.args.self.now)) c.write_tuple.ensures
