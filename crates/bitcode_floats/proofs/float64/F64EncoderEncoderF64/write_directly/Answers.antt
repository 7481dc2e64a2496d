-- The column of the one float is that of its listing.
use Rattle.std.proofs.Common.{refl, [], ◌∷◌, pos, map, ap, ◌∙◌, ◌++◌}
use Rattle.bitcode_columns.specs.IntColumn.{int_text}
use Rattle.std.specs.Prelude.{to_bits}
use Rattle.std.specs.Float.{binary64}
use Rattle.bitcode_memory.specs.Fast.{fast_items}
use Rattle.bitcode_shapes.specs.Shape.{float_shape}
use Rattle.bitcode_shapes.specs.Floats.{float_number}
use Rattle.bitcode_shapes.specs.Ints.{ListsNumber}
use Rattle.bitcode_coder.specs.Columns.{floats}
use Rattle.bitcode_coder.specs.Spelling.{natural}
use Rattle.bitcode_coder.proofs.OneValueLemmas.{writes_entry}
use Rattle.bitcode_floats.proofs.float64.F64EncoderEncoderF64.write_directly.Goals as goal

pub returns-clause-written : goal.returns-clause-written
returns-clause-written c done =
    writes_entry (ListsNumber (float_number binary64)) (float_shape binary64) (floats binary64) c.args.t.now (natural (to_bits binary64 c.args.t.now))
    (map natural (fast_items c.args.self.now.bits)) c.args.out.now.items c.pack_one.new.out.items (λ ds. refl) refl c.requires
    (c.in_ok-pack_one.ensures.written ∙ ap (λ b. c.args.out.now.items ++ int_text 8 (pos b ∷ [])) c.f64_to_bits_with_nan.ensures)
