-- The first field is read, and then the second one from what is left.
use Rattle.std.proofs.Common.{refl}
use Rattle.bitcode_shapes.specs.Datum.{pair}
use Rattle.bitcode_tuples.proofs.ReadingLemmas.{reads_pairs}
use Rattle.bitcode_tuples.proofs.decoder.TupleDecoderDecoderTuple2.read_one.Goals as goal

pub returns : goal.returns
returns g c =
    let first = c.in_ok-first.ensures in
    let second = c.in_ok-second.ensures in
    record {
      datum = pair first.datum second.datum;
      read = reads_pairs g.A.HoldsData.shape g.B.HoldsData.shape 1 _ _ first.read second.read;
      made = record { first = first.datum; second = second.datum; is = refl; makes_first = first.made; makes_second = second.made };
    }
