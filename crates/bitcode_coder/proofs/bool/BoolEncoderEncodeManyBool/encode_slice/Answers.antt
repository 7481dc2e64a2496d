-- The listings of the bools join their column.
use Rattle.std.proofs.Common.{refl}
use Rattle.bitcode_memory.specs.Fast.{fast_items}
use Rattle.bitcode_shapes.specs.Shape.{bool_shape}
use Rattle.bitcode_shapes.specs.Ints.{ListsNumber, bool_number}
use Rattle.bitcode_coder.specs.Columns.{bools}
use Rattle.bitcode_coder.specs.Spelling.{truth}
use Rattle.bitcode_coder.proofs.PushingLemmas.{joins_themselves}
use Rattle.bitcode_coder.proofs.bool.BoolEncoderEncodeManyBool.encode_slice.Goals as goal

pub returns-clause-joined : goal.returns-clause-joined
returns-clause-joined c =
    joins_themselves (ListsNumber bool_number) bool_shape bools truth c.args.items.now (fast_items c.args.self.now.values)
    (fast_items c.extend_unchecked.new.self) (λ ds. refl) (λ t. refl) c.extend_unchecked.ensures.items
