-- The listings of the values join their column.
use Rattle.bitcode_memory.specs.Fast.{fast_items}
use Rattle.bitcode_shapes.specs.Datum.{number}
use Rattle.bitcode_coder.specs.Columns.{ints}
use Rattle.bitcode_coder.proofs.PushingLemmas.{joins_entries}
use Rattle.bitcode_ints.proofs.int.IntEncoderEncodeMany.encode_slice.Goals as goal

pub returns-clause-joined : goal.returns-clause-joined
returns-clause-joined g c =
    joins_entries g.P.Shaped.data.lists g.P.Shaped.data.shape (ints g.I.ColumnInt.width g.I.ColumnInt.signed) (λ t. number (g.I.ColumnInt.number t)) c.args.items.now
    c.push_ints.ensures.written.ints (fast_items c.args.self.now.values) (fast_items c.push_ints.new.ints) g.met.P.AsInt.as_int_columns
    c.push_ints.ensures.written.stand c.push_ints.ensures.written.pushed
