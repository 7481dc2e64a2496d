-- Options are written as the variants of all, and then the values of those that have one.
use Rattle.std.proofs.Common.{◌≡◌, map, take, length, ◌∙◌, ap, ◌++◌, lit<, arith}
use Rattle.std.proofs.lemmas.List.{length-map}
use Rattle.std.proofs.lemmas.Result.{on_ok_weaker}
use Rattle.bitcode_memory.specs.declared.error.Error.{Error}
use Rattle.bitcode_coder.proofs.RefusalLemmas.{refused_weaker}
use Rattle.bitcode_parts.specs.Options.{option_index}
use Rattle.bitcode_parts.specs.Variants.{written_variants}
use Rattle.bitcode_parts.proofs.OptionLemmas.{joins_options, overflows_options}
use Rattle.bitcode_parts.proofs.choices.option.OptionEncoderEncodeManyOption.encode_part_of_each.Goals as goal

pub encode_vectored-requires : goal.encode_vectored-requires
encode_vectored-requires g c =
    let os = map (g.W.Part.of c.args.which.now) c.args.items.now in
    let written = take (length c.args.items.now) c.gather_variants.new.variants in
    let size : length written ≡ length c.args.items.now =
    ap length c.gather_variants.ensures.gathered ∙ length-map os option_index ∙ length-map c.args.items.now (g.W.Part.of c.args.which.now) in
    (lit< tt, ((omega (arith, size), omega (arith, size)), (omega (arith, size), c.gather_variants.ensures.known)))

pub returns-clause-joined : goal.returns-clause-joined
returns-clause-joined g c =
    let os = map (g.W.Part.of c.args.which.now) c.args.items.now in
    on_ok_weaker c.encode_values.result
    (joins_options g.T.Shaped.data.lists g.T.Shaped.data.shape os (written_variants c.args.self.now.variants) (g.E.HoldsColumns.columns c.args.self.now.some)
    (written_variants c.encode_vectored.new.self) (g.E.HoldsColumns.columns c.encode_values.new.encoder)
    (c.encode_vectored.ensures.written ∙ ap (λ more. written_variants c.args.self.now.variants ++ more) c.gather_variants.ensures.gathered))
    c.encode_values.ensures.joined

pub returns-clause-refused : goal.returns-clause-refused
returns-clause-refused g c =
    let os = map (g.W.Part.of c.args.which.now) c.args.items.now in
    refused_weaker (λ (e : Error). e.reason) c.encode_values.result
    (overflows_options g.T.Shaped.data.lists g.T.Shaped.data.shape os (written_variants c.args.self.now.variants) (g.E.HoldsColumns.columns c.args.self.now.some))
    c.encode_values.ensures.refused
