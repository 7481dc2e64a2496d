use Rattle.std.proofs.Common.{◌≡◌, ◌∷◌, sym, ap, ◌∙◌, arith}
use Rattle.std.proofs.Math.Nat.{mod-eq_of_lt}
use Rattle.std.proofs.lemmas.Result.{on_ok_weaker, on_err_weaker}
use Rattle.bitcode_int_columns.proofs.IntReadingLemmas.{Reads-bare_bytes, Reads-raw_bytes, Reads-widened_bytes, tag_from_raw}
use Rattle.bitcode_columns.proofs.ReadingLemmas.{IsEndOf-byte}
use Rattle.bitcode_int_columns.proofs.WideningLemmas.{some_numbers}
use Rattle.bitcode_int_columns.proofs.pack_ints.read.read_column.Goals as goal

pub returns-then-count-le-MOST_WITHOUT_TAG-clause-read : goal.returns-then-count-le-MOST_WITHOUT_TAG-clause-read
returns-then-count-le-MOST_WITHOUT_TAG-clause-read g c =
    on_ok_weaker c.borrow_entries.result (λ r. Reads-bare_bytes g.T.Int.width c.args.count _ _ _ c.requires (omega arith) r) c.borrow_entries.ensures.read

pub returns-then-has_raw_tag-clause-read : goal.returns-then-has_raw_tag-clause-read
returns-then-has_raw_tag-clause-read g c =
    let taken = c.in_ok-consume_byte.ensures.taken in
    let none = tag_from_raw _ _ _ (sym c.has_raw_tag.ensures ∙ c.if-has_raw_tag.true) taken in
    on_ok_weaker c.borrow_entries-then-has_raw_tag.result (λ r. Reads-raw_bytes g.T.Int.width c.args.count _ _ _ _ _ c.requires (omega arith) taken none r)
    c.borrow_entries-then-has_raw_tag.ensures.read

pub returns-then-has_raw_tag-clause-rest : goal.returns-then-has_raw_tag-clause-rest
returns-then-has_raw_tag-clause-rest g c =
    on_err_weaker c.borrow_entries-then-has_raw_tag.result (λ same. IsEndOf-byte _ _ _ (c.in_ok-consume_byte.ensures.taken ∙ ap (λ xs. c.in_ok-consume_byte.field-0 ∷ xs) (sym same)))
    c.borrow_entries-then-has_raw_tag.ensures.rest

pub returns-clause-read : goal.returns-clause-read
returns-clause-read g c =
    let none : g.T.Unsigned.SizedUInt.value c.from_wide-none.result ≡ 0 = c.from_wide-none.ensures ∙ mod-eq_of_lt (some_numbers g.T.Unsigned.SizedUInt.width) in
    rw c.set_owned.ensures (Reads-widened_bytes g.T.Int.width _ c.args.count _ _ _ c.requires none (omega arith) c.in_ok-entries.ensures.read)
