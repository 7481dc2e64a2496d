use Rattle.std.proofs.Common.{◌∙◌, ◌++◌, ap, sym, subst, All, true, false}
use Rattle.bitcode_columns.specs.ByteColumn.{byte_text}
use Rattle.bitcode_memory.specs.Ints.{IsNumber}
use Rattle.bitcode_int_columns.proofs.AppendLemmas.{on_ok_both, column_numbers, no_base}
use Rattle.bitcode_int_columns.proofs.pack_ints.write.write_column.Goals as goal

pub returns-then-is_signed-clause-written : goal.returns-then-is_signed-clause-written
returns-then-is_signed-clause-written g c =
    on_ok_both c.write_bytes.result
    (λ written numbers. written ∙ ap (λ ns. c.args.out.now.items ++ byte_text ns)
    (column_numbers g.T.Int.width _ true g.T.Int.number c.args.entries.now c.requires (no_base _ _ c.from_wide-base.ensures)
    (subst (λ signed. All (λ e. IsNumber g.T.Int.width signed (g.T.Int.number e)) c.args.entries.now) (sym c.is_signed.ensures ∙ c.if-is_signed.true) numbers)))
    c.write_bytes.ensures.written c.write_bytes.ensures.in_range

pub returns-else-is_signed-clause-written : goal.returns-else-is_signed-clause-written
returns-else-is_signed-clause-written g c =
    on_ok_both c.write_bytes-else-is_signed.result
    (λ written numbers. written ∙ ap (λ ns. c.args.out.now.items ++ byte_text ns)
    (column_numbers g.T.Int.width _ false g.T.Int.number c.args.entries.now c.requires (no_base _ _ c.from_wide-base.ensures)
    (subst (λ signed. All (λ e. IsNumber g.T.Int.width signed (g.T.Int.number e)) c.args.entries.now) (sym c.is_signed.ensures ∙ c.if-is_signed.false) numbers)))
    c.write_bytes-else-is_signed.ensures.written c.write_bytes-else-is_signed.ensures.in_range
