-- The length is read, and then so many elements.
use Rattle.std.proofs.Common.{◌∙◌}
use Rattle.bitcode_parts.proofs.DirectLemmas.{list_read_if}
use Rattle.bitcode_parts.proofs.lists.vec.VecDecoderDecoderVec.read_one.Goals as goal

pub returns : goal.returns
returns g c =
    list_read_if g.T.Shaped.data.makes g.D.HoldsData.shape _ c.read_list.result c.in-Ok.ensures.read (c.length.ensures ∙ c.in-Ok.ensures.sum) c.read_list.ensures
