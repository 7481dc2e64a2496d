use Rattle.bitcode_parts.specs.Variants.{written_variants}
use Rattle.bitcode_parts.proofs.BareVariantLemmas.{bare_cleared}
use Rattle.bitcode_parts.proofs.choices.bare.BareEncoderBuffer.clear.Goals as goal

pub returns-clause-empty : goal.returns-clause-empty
returns-clause-empty g c = bare_cleared g.row.N (written_variants c.args.self.now.variants) _ c.clear.ensures.empty
