-- The listing of a bool joins its column.
use Rattle.std.proofs.Common.{refl}
use Rattle.bitcode_memory.specs.Fast.{fast_items}
use Rattle.bitcode_shapes.specs.Shape.{bool_shape}
use Rattle.bitcode_shapes.specs.Ints.{ListsNumber, bool_number}
use Rattle.bitcode_coder.specs.Columns.{bools}
use Rattle.bitcode_coder.specs.Spelling.{truth}
use Rattle.bitcode_coder.proofs.OneColumnLemmas.{joins_entry}
use Rattle.bitcode_coder.proofs.bool.BoolEncoderEncoderBool.encode.Goals as goal

pub returns-clause-joined : goal.returns-clause-joined
returns-clause-joined c =
    joins_entry (ListsNumber bool_number) bool_shape bools truth c.args.t.now c.args.t.now (fast_items c.args.self.now.values)
    (fast_items c.push_unchecked.new.self) (λ ds. refl) refl c.push_unchecked.ensures.items
