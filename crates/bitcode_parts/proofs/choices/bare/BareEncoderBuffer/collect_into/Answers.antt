use Rattle.std.proofs.lemmas.Result.{on_ok_weaker}
use Rattle.bitcode_parts.specs.Variants.{written_variants}
use Rattle.bitcode_parts.proofs.BareVariantLemmas.{bare_cleared}
use Rattle.bitcode_parts.proofs.choices.bare.BareEncoderBuffer.collect_into.Goals as goal

pub returns-clause-empty : goal.returns-clause-empty
returns-clause-empty g c =
    on_ok_weaker c.collect_into.result (bare_cleared g.row.N (written_variants c.args.self.now.variants) _) c.collect_into.ensures.empty
