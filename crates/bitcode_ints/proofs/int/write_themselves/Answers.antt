-- Each integer stands for itself.
use Rattle.std.proofs.lemmas.Result.{IfOk-weaker}
use Rattle.bitcode_ints.proofs.PushedIntLemmas.{writes_themselves}
use Rattle.bitcode_ints.proofs.int.write_themselves.Goals as goal

pub returns-clause-written : goal.returns-clause-written
returns-clause-written g c =
    IfOk-weaker c.pack_slice.result _ _
    (λ done written is. writes_themselves g.I.ColumnInt.width g.I.ColumnInt.number c.args.values.now c.args.out.now.items c.pack_slice.new._out.items (written is))
    c.pack_slice.ensures.written
