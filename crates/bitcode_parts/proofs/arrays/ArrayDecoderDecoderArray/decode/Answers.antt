-- The next elements are those of the next array.
use Rattle.bitcode_parts.proofs.ArrayReadingLemmas.{takes_array}
use Rattle.bitcode_parts.proofs.arrays.ArrayDecoderDecoderArray.decode.Goals as goal

pub returns-clause-made : goal.returns-clause-made
returns-clause-made g c =
    takes_array g.T.Shaped.data.makes g.row.N c.args.self.now.left c.in-Ok.array (g.D.HoldsData.held c.args.self.now.elements) (g.D.HoldsData.held c.decode_each.new.elements)
    c.requires (rw c.in-Ok.ensures.0 c.in_ok-items.ensures.made)
