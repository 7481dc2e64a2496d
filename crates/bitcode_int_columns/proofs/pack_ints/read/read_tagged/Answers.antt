use Rattle.std.proofs.Common.{sym, ap, ◌∙◌, subst}
use Rattle.std.proofs.lemmas.Result.{on_ok_weaker, on_err_weaker, IfErr-weaker, err_from_is_err_and}
use Rattle.bitcode_memory.specs.IntWidths.{IsWidth}
use Rattle.bitcode_columns.specs.IntColumn.{highest_int_tag, width_at_level}
use Rattle.bitcode_columns.specs.Reading.{Names, narrow_fault}
use Rattle.bitcode_int_columns.proofs.IntReadingLemmas.{Reads-raw_tagged, fault_of_raw, end_behind_header, fault_behind_header, IsWidth-at_level, Reads-narrow_tagged}
use Rattle.bitcode_columns.proofs.ReadingLemmas.{OnErr-always, IsEndOf-same}
use Rattle.bitcode_int_columns.proofs.pack_ints.read.read_tagged.Goals as goal

pub returns-then-raw-clause-read : goal.returns-then-raw-clause-read
returns-then-raw-clause-read g c =
    let w = g.T.Int.width in
    let header = c.in_ok-width.ensures.read.3 in
    let raw = sym c.has_raw_tag-raw.ensures ∙ c.if-raw.true in
    on_ok_weaker c.borrow_entries.result (λ r. Reads-raw_tagged w (highest_int_tag w) _ _ c.args.count _ _ _ _ header raw c.requires r) c.borrow_entries.ensures.read

pub returns-then-raw-clause-refused : goal.returns-then-raw-clause-refused
returns-then-raw-clause-refused g c =
    let w = g.T.Int.width in
    let header = c.in_ok-width.ensures.read.3 in
    let raw = sym c.has_raw_tag-raw.ensures ∙ c.if-raw.true in
    let same = fault_of_raw w (highest_int_tag w) _ _ c.args.count _ _ header raw c.requires in
    IfErr-weaker c.borrow_entries.result _ _ (λ e n. subst (Names e.reason) (sym same) n) c.borrow_entries.ensures.refused

pub returns-then-raw-clause-rest : goal.returns-then-raw-clause-rest
returns-then-raw-clause-rest g c =
    let w = g.T.Int.width in
    let header = c.in_ok-width.ensures.read.3 in
    on_err_weaker c.borrow_entries.result (λ same. end_behind_header w (highest_int_tag w) _ _ _ _ header _ (IsEndOf-same _ _ same)) c.borrow_entries.ensures.rest

pub read_narrow-requires : goal.read_narrow-requires
read_narrow-requires g c =
    let told = c.in_ok-width.ensures.read in
    subst IsWidth (sym told.2) (IsWidth-at_level g.T.Int.width told.0 g.met.T.Int.width_law told.1)

pub returns-in_err-entries-clause-refused : goal.returns-in_err-entries-clause-refused
returns-in_err-entries-clause-refused g c =
    let w = g.T.Int.width in
    let told = c.in_ok-width.ensures.read in
    let same = fault_behind_header w (highest_int_tag w) _ _ _ _ told.3 (λ l. narrow_fault c.args.count (width_at_level w l)) in
    let p = err_from_is_err_and c.from_residual-in_err-entries.result c.from_residual-in_err-entries.ensures.1 in
    let faults = same ∙ ap (λ v. narrow_fault c.args.count v c.read_header.new.input.now) (sym told.2) in
    rw (p.1, p.2) (subst (Names c.in_err-entries.field-0.0.reason) (sym faults) c.in_err-entries.ensures.refused)

pub returns-in_err-entries-clause-rest : goal.returns-in_err-entries-clause-rest
returns-in_err-entries-clause-rest g c =
    let w = g.T.Int.width in
    OnErr-always c.from_residual-in_err-entries.result
    (end_behind_header w (highest_int_tag w) _ _ _ _ c.in_ok-width.ensures.read.3 _ c.in_err-entries.ensures.rest)

pub returns-clause-read : goal.returns-clause-read
returns-clause-read g c =
    let w = g.T.Int.width in
    let told = c.in_ok-width.ensures.read in
    rw c.set_owned.ensures (Reads-narrow_tagged w (highest_int_tag w) _ _ _ c.args.count _ _ _ _ told.3 told.2 c.in_ok-entries.ensures.read)
