-- The numbers of the column are those of the integers.
use Rattle.std.proofs.Common.{ap, sym, ◌∙◌, ◌++◌, map}
use Rattle.bitcode_columns.specs.IntColumn.{int_text}
use Rattle.bitcode_memory.specs.Fast.{fast_items}
use Rattle.bitcode_coder.proofs.IntLemmas.{numbers_in}
use Rattle.bitcode_ints.proofs.int.IntEncoderBuffer.collect_into.Goals as goal

pub returns-clause-written : goal.returns-clause-written
returns-clause-written g c =
    c.in_ok-pack.ensures.written
    ∙ ap (λ entries. c.args.out.now.items ++ int_text g.T.ColumnInt.width entries)
    (ap (map g.T.ColumnInt.number) c.as_mut_slice.ensures.value ∙ sym (numbers_in g.T.ColumnInt.number (fast_items c.args.self.now.values)))
