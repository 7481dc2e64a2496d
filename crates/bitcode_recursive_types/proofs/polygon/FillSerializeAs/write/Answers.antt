-- By the variant. Written by `scripts/second_format`.
use Rattle.std.proofs.Common.{refl}
use Rattle.bitcode_recursive_types.specs.PolygonShape.{fill_trees}
use Rattle.bitcode_recursive_types.proofs.polygon.FillSerializeAs.write.Goals as goal

pub returns-in-Nothing : goal.returns-in-Nothing
returns-in-Nothing c = rw c.in-Nothing.is (c.write_variant.ensures (fill_trees c.args.left) refl)

pub returns-in-Colour : goal.returns-in-Colour
returns-in-Colour c = rw c.in-Colour.is (c.write_variant-in-Colour.ensures (fill_trees c.args.left) refl)

pub returns-in-Pattern : goal.returns-in-Pattern
returns-in-Pattern c = rw c.in-Pattern.is (c.write_variant-in-Pattern.ensures (fill_trees c.args.left) refl)
