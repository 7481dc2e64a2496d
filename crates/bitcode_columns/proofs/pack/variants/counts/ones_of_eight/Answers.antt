use Rattle.std.proofs.Common.{ap, ◌∙◌}
use Rattle.std.specs.Prelude.{count_ones}
use Rattle.bitcode_columns.proofs.BitCountLemmas.{ones_counted}
use Rattle.bitcode_columns.proofs.pack.variants.counts.ones_of_eight.Goals as goal

pub returns : goal.returns
returns c = ap count_ones c.bits_of_eight.ensures ∙ ones_counted c.args.bytes c.known_bytes.ensures
