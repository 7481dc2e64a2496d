-- What is inside is less deep.
use Rattle.std.proofs.Common.{◌+◌, ◌*◌}
use Rattle.bitcode_command.proofs.formats.+first.Given as goal

abbrev pub decreases-schema_node : goal.decreases-schema_node
decreases-schema_node l = 2 * l.depth

abbrev pub decreases-schema_box : goal.decreases-schema_box
decreases-schema_box l = 2 * l.depth + 1

abbrev pub decreases-schema_nodes : goal.decreases-schema_nodes
decreases-schema_nodes l = 2 * l.depth + 1

abbrev pub decreases-schema_members : goal.decreases-schema_members
decreases-schema_members l = 2 * l.depth + 1
