-- The column of the variants is empty, and there are no others.
use Rattle.bitcode_parts.specs.Variants.{written_variants}
use Rattle.bitcode_parts.proofs.BareVariantLemmas.{bare_cleared}
use Rattle.bitcode_parts.proofs.choices.bare.BareEncoderBuffer.new.Goals as goal

pub returns-clause-empty : goal.returns-clause-empty
returns-clause-empty g c = bare_cleared g.row.N (written_variants c.new.result) (written_variants c.new.result) c.new.ensures.empty
