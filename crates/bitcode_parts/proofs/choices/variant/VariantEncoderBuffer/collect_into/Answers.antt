use Rattle.std.proofs.Common.{rules}
use Rattle.bitcode_coder.proofs.LengthPartLemmas.{naturals_in}
use Rattle.bitcode_parts.specs.Variants.{written_variants}
use Rattle.bitcode_parts.proofs.choices.variant.VariantEncoderBuffer.collect_into.Goals as goal

pub returns-clause-written : goal.returns-clause-written
unfolding written_variants
returns-clause-written g c = rw naturals_in (search rules)
