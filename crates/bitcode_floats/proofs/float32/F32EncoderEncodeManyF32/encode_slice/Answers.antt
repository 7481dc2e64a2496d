-- The listings of the floats join their column.
use Rattle.std.proofs.Common.{refl}
use Rattle.std.specs.Float.{binary32}
use Rattle.bitcode_memory.specs.Fast.{fast_items}
use Rattle.bitcode_shapes.specs.Shape.{float_shape}
use Rattle.bitcode_shapes.specs.Floats.{float_number}
use Rattle.bitcode_shapes.specs.Ints.{ListsNumber}
use Rattle.bitcode_coder.specs.Columns.{floats}
use Rattle.bitcode_floats.specs.Floats.{float_datum}
use Rattle.bitcode_coder.proofs.PushingLemmas.{joins_themselves}
use Rattle.bitcode_floats.proofs.float32.F32EncoderEncodeManyF32.encode_slice.Goals as goal

pub returns-clause-joined : goal.returns-clause-joined
returns-clause-joined c =
    joins_themselves (ListsNumber (float_number binary32)) (float_shape binary32) (floats binary32) (float_datum binary32) c.args.items.now (fast_items c.args.self.now.values)
    (fast_items c.extend_unchecked.new.self) (λ ds. refl) (λ t. refl) c.extend_unchecked.ensures.items
