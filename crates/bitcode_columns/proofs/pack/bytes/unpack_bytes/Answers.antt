use Rattle.std.proofs.Common.{◌≡◌, arith, rules}
use Rattle.bitcode_columns.specs.declared.pack.Base.TheVariants.{Whole}
use Rattle.bitcode_columns.proofs.ByteReadingLemmas.{end_behind_form, whole_behind_form, read_behind_form, Reads-plain}
use Rattle.bitcode_columns.proofs.ReadingLemmas.{OnErr-always, IsEndOf-same}
use Rattle.bitcode_columns.proofs.pack.bytes.unpack_bytes.Goals as goal

pub returns-in_err-consume_bytes-2-clause-rest : goal.returns-in_err-consume_bytes-2-clause-rest
returns-in_err-consume_bytes-2-clause-rest c =
    let form = c.in_ok-form.ensures.read in
    OnErr-always c.from_residual-in_err-consume_bytes-2.result
    (end_behind_form c.args.count _ _ _ _ (omega arith) form _ (IsEndOf-same _ _ c.in_err-consume_bytes-2.ensures.unchanged))

pub returns-then-eq-clause-read : goal.returns-then-eq-clause-read
returns-then-eq-clause-read c =
    let form = c.in_ok-form.ensures.read in
    let is : c.in_ok-form.form.base ≡ Whole = search rules in
    let taken = c.in_ok-consume_bytes-2.ensures in
    rw c.borrow_bytes-then-eq.ensures.rest (whole_behind_form c.args.count _ _ _ _ (omega arith) form c.in_ok-consume_bytes-2.field-0.now _ is c.borrow_bytes-then-eq.ensures.below taken.size taken.whole)

pub returns-in_err-entries-clause-rest : goal.returns-in_err-entries-clause-rest
returns-in_err-entries-clause-rest c =
    let form = c.in_ok-form.ensures.read in
    OnErr-always c.from_residual-in_err-entries.result (end_behind_form c.args.count _ _ _ _ (omega arith) form _ c.in_err-entries.ensures.rest)

pub returns-clause-read : goal.returns-clause-read
returns-clause-read c =
    let form = c.in_ok-form.ensures.read in
    rw c.set_owned.ensures (read_behind_form c.args.count _ _ _ _ (omega arith) form c.add_to_each.new.entries.items c.in_ok-entries.entries.items _ (Reads-plain c.in_ok-entries.ensures.read) c.add_to_each.ensures)
