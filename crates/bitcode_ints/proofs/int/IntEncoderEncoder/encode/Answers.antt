-- The listing of a value joins its column.
use Rattle.bitcode_memory.specs.Fast.{fast_items}
use Rattle.bitcode_shapes.specs.Datum.{number}
use Rattle.bitcode_coder.specs.Columns.{ints}
use Rattle.bitcode_coder.proofs.OneColumnLemmas.{joins_entry}
use Rattle.bitcode_ints.proofs.int.IntEncoderEncoder.encode.Goals as goal

pub returns-clause-joined : goal.returns-clause-joined
returns-clause-joined g c =
    joins_entry g.P.Shaped.data.lists g.P.Shaped.data.shape (ints g.I.ColumnInt.width g.I.ColumnInt.signed) (λ t. number (g.I.ColumnInt.number t)) c.args.t.now c.to_int.result
    (fast_items c.args.self.now.values) (fast_items c.push_unchecked.new.self) g.met.P.AsInt.as_int_columns c.to_int.ensures c.push_unchecked.ensures.items
