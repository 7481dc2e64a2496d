use Rattle.bitcode_int_columns.proofs.WideningLemmas.{widened_is, some_numbers}
use Rattle.bitcode_int_columns.proofs.pack_ints.read.widened.Goals as goal

pub returns : goal.returns
returns g c =
    widened_is g.T.Int.width g.T.Unsigned.SizedUInt.width _ _ _ _ g.T.Int.signed _ _ g.met.T.Int.unsigned_law (some_numbers g.T.Int.width)
    c.from_wide.ensures c.wrapping_add-sum.ensures c.from_unsigned.ensures c.to_unaligned.ensures
