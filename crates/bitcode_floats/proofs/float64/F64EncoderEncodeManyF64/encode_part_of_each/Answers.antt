-- The bits of the parts join their column.
use Rattle.std.proofs.Common.{refl, map, sym, ap, ◌∙◌, ◌++◌}
use Rattle.std.proofs.lemmas.Simd.{map-map}
use Rattle.std.specs.Prelude.{to_bits}
use Rattle.std.specs.Float.{Float, binary64}
use Rattle.bitcode_memory.specs.Fast.{fast_items}
use Rattle.bitcode_shapes.specs.Shape.{float_shape}
use Rattle.bitcode_shapes.specs.Floats.{float_number}
use Rattle.bitcode_shapes.specs.Ints.{ListsNumber}
use Rattle.bitcode_coder.specs.Columns.{floats}
use Rattle.bitcode_coder.specs.Spelling.{natural}
use Rattle.bitcode_floats.proofs.FloatLemmas.{joins_made}
use Rattle.bitcode_floats.proofs.float64.F64EncoderEncodeManyF64.encode_part_of_each.Goals as goal

pub returns-clause-joined : goal.returns-clause-joined
returns-clause-joined g c =
    let of = g.W.Part.of c.args.which.now in
    let bits = λ (x : Float). to_bits binary64 x in
    joins_made (ListsNumber (float_number binary64)) (float_shape binary64) (floats binary64) natural bits (map of c.args.items.now) (fast_items c.args.self.now.bits)
    (fast_items c.push_parts.result) (λ ds. refl) (λ t. refl)
    (c.push_parts.ensures.written ∙ ap (λ b. fast_items b ++ map (λ item. to_bits binary64 (of item)) c.args.items.now) c.replace-bits.ensures.value
    ∙ ap (λ more. fast_items c.args.self.now.bits ++ more) (sym (map-map bits of c.args.items.now)))
