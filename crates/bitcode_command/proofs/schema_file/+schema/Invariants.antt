-- Each node takes one from those that are left.
use Rattle.std.proofs.Common.{◌+◌, ◌*◌}
use Rattle.bitcode_command.proofs.schema_file.+schema.Given as goal

abbrev pub decreases-read_node : goal.decreases-read_node
decreases-read_node l = 4 * l.left

abbrev pub decreases-read_composite : goal.decreases-read_composite
decreases-read_composite l = 4 * l.left + 3

abbrev pub decreases-read_one : goal.decreases-read_one
decreases-read_one l = 4 * l.left + 2

abbrev pub decreases-read_box : goal.decreases-read_box
decreases-read_box l = 4 * l.left + 1

abbrev pub decreases-read_counted : goal.decreases-read_counted
decreases-read_counted l = 4 * l.left + 2

abbrev pub decreases-read_two : goal.decreases-read_two
decreases-read_two l = 4 * l.left + 2

abbrev pub decreases-read_tuple : goal.decreases-read_tuple
decreases-read_tuple l = 4 * l.left + 1

abbrev pub decreases-read_members : goal.decreases-read_members
decreases-read_members l = 4 * l.left + 1
