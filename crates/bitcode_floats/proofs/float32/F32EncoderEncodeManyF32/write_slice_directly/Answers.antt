-- The columns of the floats are those of a listing of each.
use Rattle.std.proofs.Common.{refl, ap, sym, ◌∙◌, ◌++◌}
use Rattle.bitcode_float_columns.specs.FloatColumn.{split_text}
use Rattle.std.specs.Float.{binary32}
use Rattle.bitcode_memory.specs.Fast.{fast_items}
use Rattle.bitcode_shapes.specs.Shape.{float_shape}
use Rattle.bitcode_shapes.specs.Floats.{float_number}
use Rattle.bitcode_shapes.specs.Ints.{ListsNumber}
use Rattle.bitcode_coder.specs.Columns.{floats}
use Rattle.bitcode_floats.specs.Floats.{float_datum, data_of_floats}
use Rattle.bitcode_floats.proofs.FloatLemmas.{bits_of_data, writes_themselves}
use Rattle.bitcode_floats.proofs.float32.F32EncoderEncodeManyF32.write_slice_directly.Goals as goal

pub returns-clause-written : goal.returns-clause-written
returns-clause-written c done =
    writes_themselves (ListsNumber (float_number binary32)) (float_shape binary32) (floats binary32) (float_datum binary32) c.args.items.now
    (data_of_floats binary32 (fast_items c.args.self.now.values)) c.args.out.now.items c.pack_f32s.new.out.items (λ ds. refl) (λ t. refl) c.requires
    (c.in_ok-pack_f32s.ensures.written ∙ ap (λ bits. c.args.out.now.items ++ split_text bits) (sym (bits_of_data binary32 c.args.items.now)))
