-- What was written behind nothing is the encoding.
use Rattle.bitcode_derive.proofs.EncodingLemmas.{written_alone}
use Rattle.bitcode_derive.proofs.whole.encode.Goals as goal

pub returns-clause-written : goal.returns-clause-written
returns-clause-written g c =
    written_alone g.T.Shaped.data.lists g.T.Shaped.data.shape c.args.t.now c.in_ok-bytes.bytes.items c.encode_into.new.out.items c.in_ok-bytes.ensures.items c.in_ok-encode_into.ensures.written
