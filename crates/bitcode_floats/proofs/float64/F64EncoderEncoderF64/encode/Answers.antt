-- The listing of a float joins its column.
use Rattle.std.proofs.Common.{refl, [], ◌∷◌, ap, ◌∙◌, ◌++◌}
use Rattle.std.specs.Prelude.{to_bits}
use Rattle.std.specs.Float.{binary64}
use Rattle.bitcode_memory.specs.Fast.{fast_items}
use Rattle.bitcode_shapes.specs.Shape.{float_shape}
use Rattle.bitcode_shapes.specs.Floats.{float_number}
use Rattle.bitcode_shapes.specs.Ints.{ListsNumber}
use Rattle.bitcode_coder.specs.Columns.{floats}
use Rattle.bitcode_coder.specs.Spelling.{natural}
use Rattle.bitcode_coder.proofs.OneColumnLemmas.{joins_entry}
use Rattle.bitcode_floats.proofs.float64.F64EncoderEncoderF64.encode.Goals as goal

pub returns-clause-joined : goal.returns-clause-joined
returns-clause-joined c =
    joins_entry (ListsNumber (float_number binary64)) (float_shape binary64) (floats binary64) natural c.args.t.now (to_bits binary64 c.args.t.now) (fast_items c.args.self.now.bits)
    (fast_items c.push_unchecked.new.self) (λ ds. refl) refl
    (c.push_unchecked.ensures.items ∙ ap (λ b. fast_items c.args.self.now.bits ++ b ∷ []) c.f64_to_bits_with_nan.ensures)
