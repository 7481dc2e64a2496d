-- The entry that the leaf is.
use Rattle.std.specs.Float.{binary32}
use Rattle.bitcode_shapes.specs.Datum.{number}
use Rattle.bitcode_shapes.specs.Floats.{float_number}
use Rattle.bitcode_untyped.specs.ShapeTree.{float_tree}
use Rattle.bitcode_untyped.specs.View.{datum_of}
use Rattle.bitcode_untyped.specs.declared.value.Value.TheVariants as value
use Rattle.bitcode_serde_types.proofs.KeptLemmas.{read_otherwise}
use Rattle.bitcode_serde_types.proofs.LeafData.{datum-F32}
use Rattle.bitcode_serde_types.proofs.read_leaves.F32DeserializeAs.read.Goals as goal

pub returns-clause-read : goal.returns-clause-read
returns-clause-read c =
    read_otherwise (λ x. datum_of (value.F32 x)) (λ x. number (float_number binary32 x)) datum-F32 (float_tree binary32) c.args.place c.args.reader.now c.args.budget.now c.read_number.new.reader
    c.read_number.new.budget c.read_number.result c.read_number.ensures.read
