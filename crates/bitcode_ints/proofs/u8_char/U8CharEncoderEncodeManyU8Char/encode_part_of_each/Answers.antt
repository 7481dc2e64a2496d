-- The bytes of the parts join their column.
use Rattle.std.proofs.Common.{pos, refl, map, sym, ap, ◌∙◌, ◌++◌}
use Rattle.std.proofs.lemmas.Simd.{map-map}
use Rattle.bitcode_memory.specs.Fast.{fast_items}
use Rattle.bitcode_shapes.specs.Shape.{raw_shape}
use Rattle.bitcode_shapes.specs.Ints.{ListsNumber}
use Rattle.bitcode_coder.specs.Columns.{raws}
use Rattle.bitcode_coder.specs.Spelling.{natural}
use Rattle.bitcode_ints.proofs.PushedIntLemmas.{joins_made}
use Rattle.bitcode_ints.specs.declared.u8_char.U8Char.{U8Char}
use Rattle.bitcode_ints.proofs.u8_char.U8CharEncoderEncodeManyU8Char.encode_part_of_each.Goals as goal

pub returns-clause-joined : goal.returns-clause-joined
returns-clause-joined g c =
    let of = g.W.Part.of c.args.which.now in
    let byte = λ (t : U8Char). t.0 in
    joins_made (ListsNumber (λ t. pos t.0)) raw_shape raws natural byte (map of c.args.items.now) (fast_items c.args.self.now.bytes)
    (fast_items c.push_parts.result) (λ ds. refl) (λ t. refl)
    (c.push_parts.ensures.written ∙ ap (λ b. fast_items b ++ map (λ item. (of item).0) c.args.items.now) c.replace-bytes.ensures.value
    ∙ ap (λ more. fast_items c.args.self.now.bytes ++ more) (sym (map-map byte of c.args.items.now)))
