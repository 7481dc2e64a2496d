-- Each value takes one from those that are left.
use Rattle.std.proofs.Common.{◌+◌, ◌*◌}
use Rattle.bitcode_command.proofs.to_json.+write.Given as goal

abbrev pub decreases-write : goal.decreases-write
decreases-write l = 3 * l.room.left

abbrev pub decreases-write_items : goal.decreases-write_items
decreases-write_items l = 3 * l.room.left + 1

abbrev pub decreases-write_struct : goal.decreases-write_struct
decreases-write_struct l = 3 * l.room.left + 1

abbrev pub decreases-write_map : goal.decreases-write_map
decreases-write_map l = 3 * l.room.left + 2

abbrev pub decreases-write_object : goal.decreases-write_object
decreases-write_object l = 3 * l.room.left + 1

abbrev pub decreases-write_pairs : goal.decreases-write_pairs
decreases-write_pairs l = 3 * l.room.left + 1

abbrev pub decreases-write_option : goal.decreases-write_option
decreases-write_option l = 3 * l.room.left + 2

abbrev pub decreases-write_result : goal.decreases-write_result
decreases-write_result l = 3 * l.room.left + 2

abbrev pub decreases-write_variant : goal.decreases-write_variant
decreases-write_variant l = 3 * l.room.left + 2

abbrev pub decreases-write_payload : goal.decreases-write_payload
decreases-write_payload l = 3 * l.room.left + 1
