-- The bits of the floats join their column.
use Rattle.std.proofs.Common.{refl, map, ap, ◌∙◌, ◌++◌}
use Rattle.std.specs.Prelude.{to_bits}
use Rattle.std.specs.Float.{Float, binary64}
use Rattle.bitcode_memory.specs.Fast.{fast_items}
use Rattle.bitcode_shapes.specs.Shape.{float_shape}
use Rattle.bitcode_shapes.specs.Floats.{float_number}
use Rattle.bitcode_shapes.specs.Ints.{ListsNumber}
use Rattle.bitcode_coder.specs.Columns.{floats}
use Rattle.bitcode_coder.specs.Spelling.{natural}
use Rattle.bitcode_floats.proofs.FloatLemmas.{joins_made}
use Rattle.bitcode_floats.proofs.float64.F64EncoderEncodeManyF64.encode_slice.Goals as goal

pub returns-clause-joined : goal.returns-clause-joined
returns-clause-joined c =
    let bits = λ (x : Float). to_bits binary64 x in
    joins_made (ListsNumber (float_number binary64)) (float_shape binary64) (floats binary64) natural bits c.args.items.now (fast_items c.args.self.now.bits)
    (fast_items c.push_all.result) (λ ds. refl) (λ t. refl)
    (c.push_all.ensures.written ∙ ap (λ b. fast_items b ++ map bits c.args.items.now) c.replace-bits.ensures.value)
