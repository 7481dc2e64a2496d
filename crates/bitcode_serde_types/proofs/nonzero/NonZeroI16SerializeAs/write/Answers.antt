-- Written by scripts/tables/serde_nonzero.
-- The integer is not 0.
use Rattle.std.proofs.Common.{rules, true, [], subst}
use Rattle.bitcode_coder.specs.Columns.{ints}
use Rattle.bitcode_shapes.specs.Datum.{number}
use Rattle.bitcode_shapes.specs.Shape.{nonzero}
use Rattle.bitcode_shapes.proofs.CheckedLemmas.{nonzero_signed}
use Rattle.bitcode_untyped.specs.ShapeTree.{integer_tree}
use Rattle.bitcode_serde.specs.Serializing.{Outcome}
use Rattle.bitcode_serde_types.proofs.NumberLemmas.{allowed_written}
use Rattle.bitcode_serde_types.proofs.nonzero.NonZeroI16SerializeAs.write.Goals as goal

pub returns : goal.returns
returns c =
    let is = c.write.ensures in
    let told : Outcome c.args.writer.now (integer_tree 2) c.args.place (number c.get.result) [] c.write.result c.write.new.writer =
    search (rules, is) in
    allowed_written (ints 2 true) nonzero c.args.writer.now c.args.place _ [] c.write.result c.write.new.writer
    (nonzero_signed c.args.self.now.value c.args.self.now.ok)
    (subst (λ n. Outcome c.args.writer.now (integer_tree 2) c.args.place (number n) [] c.write.result c.write.new.writer) c.get.ensures.value
    told)
