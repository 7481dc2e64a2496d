-- Written by scripts/tables/serde_nonzero.
-- The integer is not 0.
use Rattle.std.proofs.Common.{false, [], subst}
use Rattle.bitcode_coder.specs.Columns.{ints}
use Rattle.bitcode_coder.specs.Spelling.{natural}
use Rattle.bitcode_shapes.specs.Shape.{nonzero}
use Rattle.bitcode_shapes.proofs.CheckedLemmas.{nonzero_unsigned}
use Rattle.bitcode_untyped.specs.ShapeTree.{natural_tree}
use Rattle.bitcode_serde.specs.Serializing.{Outcome}
use Rattle.bitcode_serde_types.proofs.NumberLemmas.{allowed_written}
use Rattle.bitcode_serde_types.proofs.nonzero.NonZeroU32SerializeAs.write.Goals as goal

pub returns : goal.returns
returns c =
    allowed_written (ints 4 false) nonzero c.args.writer.now c.args.place _ [] c.write.result c.write.new.writer
    (nonzero_unsigned c.args.self.now.value c.args.self.now.ok)
    (subst (λ n. Outcome c.args.writer.now (natural_tree 4) c.args.place (natural n) [] c.write.result c.write.new.writer) c.get.ensures.value
    c.write.ensures)
