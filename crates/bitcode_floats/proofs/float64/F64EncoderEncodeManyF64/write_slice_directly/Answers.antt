-- The column of the floats is that of a listing of each.
use Rattle.std.proofs.Common.{◌≡◌, pos, map, refl, ap, sym, ◌∙◌, ◌++◌}
use Rattle.std.specs.Prelude.{to_bits}
use Rattle.std.specs.Float.{binary64}
use Rattle.std.proofs.lemmas.Simd.{map-map}
use Rattle.bitcode_memory.specs.Fast.{fast_items}
use Rattle.bitcode_columns.specs.IntColumn.{int_text}
use Rattle.bitcode_shapes.specs.Datum.{natural_in}
use Rattle.bitcode_shapes.specs.Shape.{float_shape}
use Rattle.bitcode_shapes.specs.Floats.{float_number}
use Rattle.bitcode_shapes.specs.Ints.{ListsNumber}
use Rattle.bitcode_coder.specs.Columns.{floats}
use Rattle.bitcode_coder.specs.Spelling.{natural}
use Rattle.bitcode_floats.specs.Floats.{float_datum, data_of_floats}
use Rattle.bitcode_floats.proofs.FloatLemmas.{bits_of_data, writes_themselves}
use Rattle.bitcode_floats.proofs.float64.F64EncoderEncodeManyF64.write_slice_directly.Goals as goal

pub returns-clause-written : goal.returns-clause-written
returns-clause-written c done =
    let items = c.args.items.now in
    let before = c.args.out.now.items in
    let numbers : map (λ x. pos (to_bits binary64 x)) items ≡ map pos (map natural_in (data_of_floats binary64 items)) =
    sym (map-map pos (λ x. to_bits binary64 x) items) ∙ ap (map pos) (sym (bits_of_data binary64 items)) in
    writes_themselves (ListsNumber (float_number binary64)) (float_shape binary64) (floats binary64) (float_datum binary64) items
    (map natural (fast_items c.args.self.now.bits)) before c.write_whole.new.out.items (λ ds. refl) (λ t. refl) c.requires
    (c.in_ok-write_whole.ensures.written ∙ ap (λ text. before ++ text) (sym (c.keep_whole_width.ensures c.if-not-keep_whole_width.false))
    ∙ ap (λ ns. before ++ int_text 8 ns) numbers)
