-- The entry that the leaf is.
use Rattle.bitcode_shapes.specs.Datum.{number}
use Rattle.bitcode_untyped.specs.ShapeTree.{integer_tree}
use Rattle.bitcode_untyped.specs.View.{datum_of}
use Rattle.bitcode_untyped.specs.declared.value.Value.TheVariants as value
use Rattle.bitcode_serde_types.proofs.KeptLemmas.{read_otherwise}
use Rattle.bitcode_serde_types.proofs.LeafData.{datum-I32}
use Rattle.bitcode_serde_types.proofs.read_leaves.I32DeserializeAs.read.Goals as goal

pub returns-clause-read : goal.returns-clause-read
returns-clause-read c =
    read_otherwise (λ x. datum_of (value.I32 x)) number datum-I32 (integer_tree 4) c.args.place c.args.reader.now c.args.budget.now c.read_number.new.reader
    c.read_number.new.budget c.read_number.result c.read_number.ensures.read
