-- Each node takes one from those that are left.
use Rattle.std.proofs.Common.{◌+◌, ◌*◌}
use Rattle.bitcode_command.proofs.from_json.+read.Given as goal

abbrev pub decreases-read : goal.decreases-read
decreases-read l = 3 * l.left

abbrev pub decreases-read_items : goal.decreases-read_items
decreases-read_items l = 3 * l.left + 1

abbrev pub decreases-read_struct : goal.decreases-read_struct
decreases-read_struct l = 3 * l.left + 1

abbrev pub decreases-read_map : goal.decreases-read_map
decreases-read_map l = 3 * l.left + 2

abbrev pub decreases-read_object : goal.decreases-read_object
decreases-read_object l = 3 * l.left + 1

abbrev pub decreases-read_pairs : goal.decreases-read_pairs
decreases-read_pairs l = 3 * l.left + 1

abbrev pub decreases-read_option : goal.decreases-read_option
decreases-read_option l = 3 * l.left + 2

abbrev pub decreases-read_result : goal.decreases-read_result
decreases-read_result l = 3 * l.left + 2

abbrev pub decreases-read_variant : goal.decreases-read_variant
decreases-read_variant l = 3 * l.left + 2

abbrev pub decreases-read_payload : goal.decreases-read_payload
decreases-read_payload l = 3 * l.left + 1
