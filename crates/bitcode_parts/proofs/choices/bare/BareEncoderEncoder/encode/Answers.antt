-- A value is written as its variant.
use Rattle.std.proofs.Common.{◌∙◌, ap, [], ◌∷◌, ◌++◌}
use Rattle.bitcode_parts.specs.Variants.{written_variants}
use Rattle.bitcode_parts.proofs.BareVariantLemmas.{joins_bare}
use Rattle.bitcode_parts.proofs.choices.bare.BareEncoderEncoder.encode.Goals as goal

pub returns-clause-joined : goal.returns-clause-joined
returns-clause-joined g c =
    joins_bare _ _ g.met.T.BareShaped.lists_bare _ g.row.N g.met.T.BareShaped.has_shape c.args.t.now _ _
    (c.encode.ensures.written ∙ ap (λ variant. written_variants c.args.self.now.variants ++ variant ∷ []) c.index.ensures.is)
