-- Written by `scripts/second_format`.
use Rattle.std.proofs.Common.{◌*◌, ◌+◌}
use Rattle.bitcode_recursive_types.proofs.search_tree.+search_tree.Given as goal

abbrev pub decreases-read_search_tree : goal.decreases-read_search_tree
decreases-read_search_tree l = 3 * l.left

abbrev pub decreases-read_search_tree_option : goal.decreases-read_search_tree_option
decreases-read_search_tree_option l = 3 * l.left + 1
