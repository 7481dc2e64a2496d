-- Several values are written as their variants.
use Rattle.std.proofs.Common.{◌≡◌, map, take, length, ◌∙◌, ap, ◌++◌, lit<, arith}
use Rattle.std.proofs.lemmas.List.{length-map}
use Rattle.bitcode_parts.specs.Variants.{written_variants}
use Rattle.bitcode_parts.proofs.BareVariantLemmas.{joins_each_bare}
use Rattle.bitcode_parts.proofs.choices.bare.BareEncoderEncodeMany.encode_part_of_each.Goals as goal

pub encode_vectored-requires : goal.encode_vectored-requires
encode_vectored-requires g c =
    let ts = map (g.W.Part.of c.args.which.now) c.args.items.now in
    let written = take (length c.args.items.now) c.gather_variants.new.variants in
    let size : length written ≡ length c.args.items.now =
    ap length c.gather_variants.ensures.gathered ∙ length-map ts g.T.BareVariants.variant ∙ length-map c.args.items.now (g.W.Part.of c.args.which.now) in
    (lit< tt, ((omega (arith, size), omega (arith, size)), (omega (arith, size), c.gather_variants.ensures.known)))

pub returns-clause-joined : goal.returns-clause-joined
returns-clause-joined g c =
    joins_each_bare _ _ g.met.T.BareShaped.lists_bare _ g.row.N g.met.T.BareShaped.has_shape (map (g.W.Part.of c.args.which.now) c.args.items.now) _ _
    (c.encode_vectored.ensures.written ∙ ap (λ more. written_variants c.args.self.now.variants ++ more) c.gather_variants.ensures.gathered)
