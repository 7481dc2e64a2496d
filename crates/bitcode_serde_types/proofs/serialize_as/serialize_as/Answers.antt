use Rattle.std.proofs.Common.{◌≡◌, [], inl, ◌∙◌, subst, sym}
use Rattle.std.proofs.lemmas.Result.{err_from_is_err_and}
use Rattle.bitcode_untyped.specs.Bounds.{IsLimited}
use Rattle.bitcode_untyped.specs.Laws.{LengthsBelowLimit}
use Rattle.bitcode_untyped.specs.ShapeTree.{IsOf}
use Rattle.bitcode_untyped.specs.Spelling.{SpellsDatum, datum_text}
use Rattle.bitcode_untyped.proofs.LawLemmas.{reads_back_datum}
use Rattle.bitcode_serde.specs.Writing.{IsWriterReason}
use Rattle.bitcode_serde.proofs.ColumnLemmas.{passed_on}
use Rattle.bitcode_serde.proofs.OutcomeLemmas.{if_ok, on_all}
use Rattle.bitcode_serde.proofs.WholeWritingLemmas.{whole_written, whole_refused}
use Rattle.bitcode_serde.proofs.WrittenLemmas.{if_err}
use Rattle.bitcode_serde_types.specs.DeepFaults.{deep_faults}
use Rattle.bitcode_serde_types.proofs.serialize_as.serialize_as.Goals as goal

pub returns-in_err-write-clause-refused : goal.returns-in_err-write-clause-refused
returns-in_err-write-clause-refused g c =
    let s = g.T.HasShape.tree 513 in
    let faults = deep_faults s (g.T.HasShape.datum c.args.value.now) in
    let y = err_from_is_err_and c.from_residual.result c.from_residual.ensures.1 in
    passed_on (λ e. IsWriterReason e.reason faults) c.from_residual.result c.in_err-write.field-0.0 y.0 y.1 y.2
    (whole_refused s c.new-writer.result faults _ c.new-writer.ensures.empty c.in_err-write.ensures.refused)

pub returns-clause-written : goal.returns-clause-written
returns-clause-written g c =
    let s = g.T.HasShape.tree 513 in
    let d = g.T.HasShape.datum c.args.value.now in
    if_ok _ (λ bytes. bytes.items ≡ datum_text s d) c.collect.result
    (λ bytes text. text ∙ whole_written s d c.new-writer.result c.write.new.writer c.new-writer.ensures.empty c.in_ok-write.ensures.written)
    c.collect.ensures.text

pub returns-clause-of_type : goal.returns-clause-of_type
returns-clause-of_type g c = on_all (IsOf (g.T.HasShape.tree 513) (g.T.HasShape.datum c.args.value.now)) c.collect.result c.in_ok-write.ensures.of_tree

pub returns-clause-whole : goal.returns-clause-whole
returns-clause-whole g c =
    on_all (deep_faults (g.T.HasShape.tree 513) (g.T.HasShape.datum c.args.value.now) ≡ []) c.collect.result c.in_ok-write.ensures.whole

pub returns-clause-round_trip : goal.returns-clause-round_trip
returns-clause-round_trip g c =
    let s = g.T.HasShape.tree 513 in
    let d = g.T.HasShape.datum c.args.value.now in
    if_ok _ (λ bytes. IsLimited s d → LengthsBelowLimit s d → SpellsDatum s bytes.items d) c.collect.result
    (λ bytes text limited lengths.
    subst (λ bs. SpellsDatum s bs d)
    (sym (text ∙ whole_written s d c.new-writer.result c.write.new.writer c.new-writer.ensures.empty c.in_ok-write.ensures.written))
    (reads_back_datum s (g.T.HasShape.sound 513) d c.in_ok-write.ensures.of_tree limited lengths))
    c.collect.ensures.text

pub returns-clause-refused : goal.returns-clause-refused
returns-clause-refused g c =
    if_err _ (λ e. IsWriterReason e.reason (deep_faults (g.T.HasShape.tree 513) (g.T.HasShape.datum c.args.value.now))) c.collect.result (λ e memory. inl memory)
    c.collect.ensures.refused
