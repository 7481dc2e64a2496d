use Rattle.std.proofs.Common.{◌∙◌, ◌++◌, ap}
use Rattle.std.proofs.lemmas.Result.{on_ok_weaker}
use Rattle.bitcode_int_columns.specs.Narrowing.{above}
use Rattle.bitcode_int_columns.proofs.AppendLemmas.{narrow_one}
use Rattle.bitcode_int_columns.proofs.pack_ints.write.write_narrow.Goals as goal

pub returns-in-1-clause-written : goal.returns-in-1-clause-written
returns-in-1-clause-written g c =
    on_ok_weaker c.write_bytes.result
    (λ written. written ∙ ap (λ text. c.args.out.now.items ++ text)
    (narrow_one c.args.width (λ e. above g.T.Int.width (g.T.Unsigned.SizedUInt.value c.args.base) (g.T.Int.number e)) c.args.entries.now c.in-1.is))
    c.write_bytes.ensures.written
