-- A value is written as the variant that it is of, and then its payload.
use Rattle.std.proofs.lemmas.Result.{on_ok_weaker}
use Rattle.bitcode_memory.specs.declared.error.Error.{Error}
use Rattle.bitcode_coder.proofs.RefusalLemmas.{refused_weaker}
use Rattle.bitcode_parts.specs.Variants.{written_variants}
use Rattle.bitcode_enums.proofs.WritingLemmas.{value_joins, value_overflows}
use Rattle.bitcode_enums.proofs.encoder.EnumEncoderEncoder.encode.Goals as goal

pub returns-clause-joined : goal.returns-clause-joined
returns-clause-joined g c =
    on_ok_weaker c.encode_payload.result
    (value_joins g.T.Shaped.data.lists g.T.Enum.each.variants.index
    g.T.Enum.each.variants.lists g.T.Shaped.data.shape g.T.Enum.each.variants.shapes g.met.T.EnumOf.counted.1
    g.met.T.EnumOf.lists_variants g.row.N g.met.T.EnumOf.counted.0 c.args.t.now c.variant.result c.variant.ensures.number
    (written_variants c.args.self.now.variants) _ _ _ c.encode.ensures.written)
    c.encode_payload.ensures.joined

pub returns-clause-refused : goal.returns-clause-refused
returns-clause-refused g c =
    refused_weaker (λ (e : Error). e.reason) c.encode_payload.result
    (value_overflows g.T.Shaped.data.lists g.T.Enum.each.variants.index
    g.T.Enum.each.variants.lists g.T.Shaped.data.shape g.T.Enum.each.variants.shapes g.met.T.EnumOf.counted.1
    g.met.T.EnumOf.lists_variants g.row.N g.met.T.EnumOf.counted.0 c.args.t.now c.variant.result c.variant.ensures.number
    (written_variants c.args.self.now.variants) _)
    c.encode_payload.ensures.refused
