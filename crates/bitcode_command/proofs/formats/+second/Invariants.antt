-- What is inside is less deep.
use Rattle.std.proofs.Common.{◌+◌, ◌*◌}
use Rattle.bitcode_command.proofs.formats.+second.Given as goal

abbrev pub decreases-shape_node : goal.decreases-shape_node
decreases-shape_node l = 2 * l.depth

abbrev pub decreases-shape_box : goal.decreases-shape_box
decreases-shape_box l = 2 * l.depth + 1

abbrev pub decreases-shape_nodes : goal.decreases-shape_nodes
decreases-shape_nodes l = 2 * l.depth + 1

abbrev pub decreases-shape_members : goal.decreases-shape_members
decreases-shape_members l = 2 * l.depth + 1

abbrev pub decreases-shape_elements : goal.decreases-shape_elements
decreases-shape_elements l = 2 * l.depth + 1
