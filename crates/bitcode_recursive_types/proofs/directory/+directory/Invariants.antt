-- Written by `scripts/second_format`.
use Rattle.std.proofs.Common.{◌*◌}
use Rattle.bitcode_serde_types.proofs.StepsRead.{ItemsKept}
use Rattle.bitcode_recursive_types.specs.DirectoryShape.{entry_tree, entry_datum}
use Rattle.bitcode_recursive_types.proofs.directory.+directory.Given as goal

abbrev pub decreases-read_directory : goal.decreases-read_directory
decreases-read_directory l = 3 * l.left

abbrev pub decreases-read_entry : goal.decreases-read_entry
decreases-read_entry l = 3 * l.left

abbrev pub invariant-read_directory-loop-i : goal.invariant-read_directory-loop-i
invariant-read_directory-loop-i l =
    ItemsKept entry_datum (entry_tree l.below) l.found1.place l.initial.reader l.initial.budget l._i l.entries.items l.reader l.budget
