-- The integer is read, and then its value is made.
use Rattle.bitcode_ints.proofs.CheckedLemmas.{value_read}
use Rattle.bitcode_ints.proofs.checked.CheckedIntDecoderDecoder.read_one.Goals as goal

pub returns : goal.returns
returns g c =
    value_read g.C.Shaped.data.makes g.I.ColumnInt.width g.I.ColumnInt.signed g.C.Checked.allowed c.from_bits.result g.met.I.ColumnInt.width_law c.in_ok-read_int.ensures
    c.from_bits.ensures
