-- The listings of the parts join their column.
use Rattle.std.proofs.Common.{refl, map, ap, ◌∙◌, ◌++◌}
use Rattle.bitcode_memory.specs.Fast.{fast_items}
use Rattle.bitcode_shapes.specs.Shape.{bool_shape}
use Rattle.bitcode_shapes.specs.Ints.{ListsNumber, bool_number}
use Rattle.bitcode_coder.specs.Columns.{bools}
use Rattle.bitcode_coder.specs.Spelling.{truth}
use Rattle.bitcode_coder.proofs.PushingLemmas.{joins_themselves}
use Rattle.bitcode_coder.proofs.bool.BoolEncoderEncodeManyBool.encode_part_of_each.Goals as goal

pub returns-clause-joined : goal.returns-clause-joined
returns-clause-joined g c =
    joins_themselves (ListsNumber bool_number) bool_shape bools truth (map (g.W.Part.of c.args.which.now) c.args.items.now) (fast_items c.args.self.now.values)
    (fast_items c.push_parts.result) (λ ds. refl) (λ t. refl)
    (c.push_parts.ensures.written ∙ ap (λ v. fast_items v ++ map (g.W.Part.of c.args.which.now) c.args.items.now) c.replace-values.ensures.value)
