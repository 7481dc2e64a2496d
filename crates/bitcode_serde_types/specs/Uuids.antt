-- The shape and the content of a UUID: its sixteen bytes.
use Rattle.std.specs.Prelude.{ℕ, List}
use Rattle.bitcode_memory.specs.declared.error.Reason.TheVariants.{InvalidBitPattern}
use Rattle.bitcode_shapes.specs.Datum.{Datum}
use Rattle.bitcode_coder.specs.Spelling.{natural}
use Rattle.bitcode_untyped.specs.ShapeTree.{ShapeTree, natural_tree}
use Rattle.bitcode_serde_types.specs.Limited.{limited_tree}
use Rattle.bitcode_serde_types.specs.Lists.{list_datum}

abbrev pub uuid_tree : ShapeTree
uuid_tree = limited_tree 16 16 InvalidBitPattern (natural_tree 1)

abbrev pub uuid_datum : List ℕ → Datum
uuid_datum bytes = list_datum natural bytes
