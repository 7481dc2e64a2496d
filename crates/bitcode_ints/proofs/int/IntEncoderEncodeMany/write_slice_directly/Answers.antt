-- The columns of the integers are those of a listing of each value.
use Rattle.std.proofs.lemmas.Result.{IfOk-weaker}
use Rattle.bitcode_memory.specs.Fast.{fast_items}
use Rattle.bitcode_ints.specs.Int.{int_data}
use Rattle.bitcode_ints.proofs.PushedIntLemmas.{writes_ints}
use Rattle.bitcode_ints.proofs.int.IntEncoderEncodeMany.write_slice_directly.Goals as goal

pub returns-clause-written : goal.returns-clause-written
returns-clause-written g c =
    IfOk-weaker c.write_ints.result _ _
    (λ done all is.
    writes_ints g.P.Shaped.data.lists g.P.Shaped.data.shape g.I.ColumnInt.width g.I.ColumnInt.signed g.I.ColumnInt.number c.args.items.now
    (int_data g.I.ColumnInt.number (fast_items c.args.self.now.values)) c.args.out.now.items c.write_ints.new._out.items g.met.P.AsInt.as_int_columns c.requires (all is))
    c.write_ints.ensures.written
