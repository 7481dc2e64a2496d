-- A value is made of the next variant, which is known.
use Rattle.bitcode_parts.proofs.BareVariantLemmas.{takes_bare}
use Rattle.bitcode_parts.proofs.choices.bare.VariantDecoderDecoder.decode.Goals as goal

pub returns-clause-made : goal.returns-clause-made
returns-clause-made g c = takes_bare g.row.N c.decode.ensures.taken c.requires _ _ g.met.T.BareShaped.makes_bare c.from_index.result c.from_index.ensures
