-- The tree of columns and their list.
use Rattle.bitcode_coder.proofs.LawLemmas.{tree_is_list}
use Rattle.bitcode_coder.proofs.laws.tree_and_list.Goals as goal

pub returns : goal.returns
returns c = tree_is_list
