-- The bytes join their column.
use Rattle.std.proofs.Common.{pos, refl, map, ap, ◌∙◌, ◌++◌}
use Rattle.bitcode_memory.specs.Fast.{fast_items}
use Rattle.bitcode_shapes.specs.Shape.{raw_shape}
use Rattle.bitcode_shapes.specs.Ints.{ListsNumber}
use Rattle.bitcode_coder.specs.Columns.{raws}
use Rattle.bitcode_coder.specs.Spelling.{natural}
use Rattle.bitcode_ints.proofs.PushedIntLemmas.{joins_made}
use Rattle.bitcode_ints.specs.declared.u8_char.U8Char.{U8Char}
use Rattle.bitcode_ints.proofs.u8_char.U8CharEncoderEncodeManyU8Char.encode_slice.Goals as goal

pub returns-clause-joined : goal.returns-clause-joined
returns-clause-joined c =
    let byte = λ (t : U8Char). t.0 in
    joins_made (ListsNumber (λ t. pos t.0)) raw_shape raws natural byte c.args.items.now (fast_items c.args.self.now.bytes)
    (fast_items c.push_parts.result) (λ ds. refl) (λ t. refl)
    (c.push_parts.ensures.written ∙ ap (λ b. fast_items b ++ map byte c.args.items.now) c.replace-bytes.ensures.value)
