-- The variant is read, and its value is made.
use Rattle.bitcode_parts.proofs.DirectLemmas.{bare_read}
use Rattle.bitcode_parts.proofs.choices.bare.VariantDecoderDecoder.read_one.Goals as goal

pub returns : goal.returns
returns g c =
    bare_read g.T.BareVariants.variant g.T.Shaped.data.makes g.met.T.BareShaped.makes_bare g.row.N c.in_ok-read_variant.ensures c.from_index.result c.from_index.ensures
