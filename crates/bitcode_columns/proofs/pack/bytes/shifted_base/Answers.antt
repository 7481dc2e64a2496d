use Rattle.std.proofs.Common.{◌∙◌}
use Rattle.bitcode_columns.proofs.BytePackingLemmas.{distance}
use Rattle.bitcode_columns.proofs.pack.bytes.shifted_base.Goals as goal

pub returns : goal.returns
returns g c =
    let apart = distance g.T.Int.signed (g.T.Int.number c.args.least) (g.T.Int.number c.args.greatest) c.to_byte-2.ensures.in_range c.to_byte.ensures.in_range c.requires in
    let low = c.to_byte-2.ensures.value in
    let high = c.to_byte.ensures.value in
    c.for_greatest.ensures ∙ rw (high, low, apart)
