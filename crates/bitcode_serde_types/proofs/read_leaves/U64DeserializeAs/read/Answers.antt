-- The entry that the leaf is.
use Rattle.bitcode_coder.specs.Spelling.{natural}
use Rattle.bitcode_untyped.specs.ShapeTree.{natural_tree}
use Rattle.bitcode_untyped.specs.View.{datum_of}
use Rattle.bitcode_untyped.specs.declared.value.Value.TheVariants as value
use Rattle.bitcode_serde_types.proofs.KeptLemmas.{read_otherwise}
use Rattle.bitcode_serde_types.proofs.LeafData.{datum-U64}
use Rattle.bitcode_serde_types.proofs.read_leaves.U64DeserializeAs.read.Goals as goal

pub returns-clause-read : goal.returns-clause-read
returns-clause-read c =
    read_otherwise (λ x. datum_of (value.U64 x)) natural datum-U64 (natural_tree 8) c.args.place c.args.reader.now c.args.budget.now c.read_number.new.reader
    c.read_number.new.budget c.read_number.result c.read_number.ensures.read
