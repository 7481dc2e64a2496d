-- The elements are read as a list, which becomes the array.
use Rattle.std.proofs.Common.{arith}
use Rattle.bitcode_parts.proofs.ArrayReadingLemmas.{array_read}
use Rattle.bitcode_parts.proofs.arrays.ArrayDecoderDecoderArray.read_one.Goals as goal

pub returns-in-Ok : goal.returns-in-Ok
returns-in-Ok g c =
    array_read g.T.Shaped.data.makes g.row.N g.D.HoldsData.shape (omega (arith, g.N.fits)) (rw (← c.in-Ok.ensures.0) at c.in_ok-items.ensures)
