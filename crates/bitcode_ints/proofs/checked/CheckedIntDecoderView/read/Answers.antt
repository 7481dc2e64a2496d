-- The column is read, and then its entries are looked at.
use Rattle.std.proofs.Common.{All, map, refl, ap, subst}
use Rattle.std.proofs.lemmas.Result.{err_from_is_err_and}
use Rattle.bitcode_memory.specs.Fast.{cow_rest}
use Rattle.bitcode_memory.specs.LittleEndian.{little_endian}
use Rattle.bitcode_memory.specs.Ints.{number_of}
use Rattle.bitcode_shapes.specs.Shape.{IsAllowed}
use Rattle.bitcode_coder.specs.Faults.{in_column, not_allowed}
use Rattle.bitcode_ints.proofs.CheckedLemmas.{checked_read, checked_numbers, checked_refusal, broken_entries}
use Rattle.bitcode_columns.specs.IntColumn.{int_text}
use Rattle.bitcode_coder.specs.Columns.{ints}
use Rattle.bitcode_coder.proofs.StrictLemmas.{judges_column}
use Rattle.bitcode_ints.proofs.checked.CheckedIntDecoderView.read.Goals as goal

pub returns-in_err-written-clause-refused : goal.returns-in_err-written-clause-refused
returns-in_err-written-clause-refused g c =
    let refused = err_from_is_err_and c.from_residual.result c.from_residual.ensures.1 in
    rw (refused.1, refused.2)
    (checked_refusal g.I.ColumnInt.width g.I.ColumnInt.signed g.C.Checked.allowed _ c.args.k c.args.input.now.now (in_column (record { named = c.in_err-written.ensures.refused; free = c.in_err-written.ensures.raw })))

pub returns-in_err-written-clause-exact : goal.returns-in_err-written-clause-exact
returns-in_err-written-clause-exact g c =
    let refused = err_from_is_err_and c.from_residual.result c.from_residual.ensures.1 in
    rw (refused.1, refused.2) (in_column (record { named = c.in_err-written.ensures.refused; free = c.in_err-written.ensures.raw }))

pub returns-then-not-are_allowed-clause-exact : goal.returns-then-not-are_allowed-clause-exact
returns-then-not-are_allowed-clause-exact g c =
    rw c.err.ensures
    (not_allowed (map (λ u. little_endian (g.I.ColumnInt.une_bytes u)) (cow_rest c.unpack.new.out)) c.unpack.new.input.now refl c.in_ok-written.ensures.read
    (broken_entries (λ u. little_endian (g.I.ColumnInt.une_bytes u)) (λ n. IsAllowed g.C.Checked.allowed (number_of g.I.ColumnInt.width g.I.ColumnInt.signed n)) (cow_rest c.unpack.new.out)
    c.as_slice.result.now c.as_slice.ensures c.if-not-are_allowed.ensures))

pub returns-then-not-are_allowed-clause-refused : goal.returns-then-not-are_allowed-clause-refused
returns-then-not-are_allowed-clause-refused g c =
    rw c.err.ensures
    (checked_refusal g.I.ColumnInt.width g.I.ColumnInt.signed g.C.Checked.allowed _ c.args.k c.args.input.now.now
    (not_allowed (map (λ u. little_endian (g.I.ColumnInt.une_bytes u)) (cow_rest c.unpack.new.out)) c.unpack.new.input.now refl c.in_ok-written.ensures.read
    (broken_entries (λ u. little_endian (g.I.ColumnInt.une_bytes u)) (λ n. IsAllowed g.C.Checked.allowed (number_of g.I.ColumnInt.width g.I.ColumnInt.signed n)) (cow_rest c.unpack.new.out)
    c.as_slice.result.now c.as_slice.ensures c.if-not-are_allowed.ensures)))

pub returns-clause-read : goal.returns-clause-read
returns-clause-read g c =
    let P = λ (u : g.row.I-Une.Denot). IsAllowed g.C.Checked.allowed (number_of g.I.ColumnInt.width g.I.ColumnInt.signed (little_endian (g.I.ColumnInt.une_bytes u))) in
    checked_read (λ u. little_endian (g.I.ColumnInt.une_bytes u)) g.I.ColumnInt.width g.I.ColumnInt.signed g.C.Checked.allowed c.args.k c.args.input.now.now
    (cow_rest c.unpack.new.out) c.unpack.new.input.now g.met.I.ColumnInt.width_law c.in_ok-written.ensures.read c.in_ok-written.ensures.in_width
    (subst (All P) c.as_slice.ensures c.if-not-are_allowed.ensures)

pub returns-clause-judged : goal.returns-clause-judged
returns-clause-judged g c strict =
    let width = g.I.ColumnInt.width in
    let signed = g.I.ColumnInt.signed in
    let number_at = λ (u : g.row.I-Une.Denot). number_of width signed (little_endian (g.I.ColumnInt.une_bytes u)) in
    let P = λ (u : g.row.I-Une.Denot). IsAllowed g.C.Checked.allowed (number_at u) in
    let read = returns-clause-read g c in
    judges_column (ints width signed) _ _ c.args.input.now.now c.unpack.new.input.now read.piece (int_text width (map number_at (cow_rest c.unpack.new.out))) read.whole
    read.spelled.columns
    (ap (int_text width) (checked_numbers number_at g.C.Checked.allowed (cow_rest c.unpack.new.out) (subst (All P) c.as_slice.ensures c.if-not-are_allowed.ensures)))
    (c.in_ok-written.ensures.judged strict)
