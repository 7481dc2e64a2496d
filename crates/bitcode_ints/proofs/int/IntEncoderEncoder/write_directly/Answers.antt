-- The column of the one integer is that of its listing.
use Rattle.bitcode_memory.specs.Fast.{fast_items}
use Rattle.bitcode_shapes.specs.Datum.{number}
use Rattle.bitcode_coder.specs.Columns.{ints}
use Rattle.bitcode_ints.specs.Int.{int_data}
use Rattle.bitcode_coder.proofs.OneValueLemmas.{writes_entry}
use Rattle.bitcode_ints.proofs.int.IntEncoderEncoder.write_directly.Goals as goal

pub returns-clause-written : goal.returns-clause-written
returns-clause-written g c done =
    writes_entry g.P.Shaped.data.lists g.P.Shaped.data.shape (ints g.I.ColumnInt.width g.I.ColumnInt.signed) c.args.t.now (number (g.I.ColumnInt.number c.to_int.result))
    (int_data g.I.ColumnInt.number (fast_items c.args.self.now.values)) c.args.out.now.items c.pack_one.new.out.items g.met.P.AsInt.as_int_columns c.to_int.ensures c.requires
    c.in_ok-pack_one.ensures.written
