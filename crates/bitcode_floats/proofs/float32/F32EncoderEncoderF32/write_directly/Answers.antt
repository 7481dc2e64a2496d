-- The column of the one float is that of its listing.
use Rattle.std.proofs.Common.{refl}
use Rattle.std.specs.Float.{binary32}
use Rattle.bitcode_memory.specs.Fast.{fast_items}
use Rattle.bitcode_shapes.specs.Shape.{float_shape}
use Rattle.bitcode_shapes.specs.Floats.{float_number}
use Rattle.bitcode_shapes.specs.Ints.{ListsNumber}
use Rattle.bitcode_coder.specs.Columns.{floats}
use Rattle.bitcode_floats.specs.Floats.{float_datum, data_of_floats}
use Rattle.bitcode_coder.proofs.OneValueLemmas.{writes_entry}
use Rattle.bitcode_floats.proofs.float32.F32EncoderEncoderF32.write_directly.Goals as goal

pub returns-clause-written : goal.returns-clause-written
returns-clause-written c done =
    writes_entry (ListsNumber (float_number binary32)) (float_shape binary32) (floats binary32) c.args.t.now (float_datum binary32 c.args.t.now)
    (data_of_floats binary32 (fast_items c.args.self.now.values)) c.args.out.now.items c.pack_f32s.new.out.items (λ ds. refl) refl c.requires
    c.in_ok-pack_f32s.ensures.written
