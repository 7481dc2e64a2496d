use Rattle.std.proofs.lemmas.Result.{on_ok_weaker}
use Rattle.bitcode_int_columns.proofs.IntReadingLemmas.{entries_in_width}
use Rattle.bitcode_int_columns.proofs.pack_ints.read.unpack_ints.Goals as goal

pub returns-clause-in_width : goal.returns-clause-in_width
returns-clause-in_width g c =
    on_ok_weaker c.read_ints.result (λ r. entries_in_width g.T.Int.width c.args.count _ _ _ c.known_bytes.ensures r) c.read_ints.ensures.read
