-- A value is written from the root.
use Rattle.std.proofs.Common.{◌≡◌, inl, [], ◌∙◌}
use Rattle.std.proofs.lemmas.Result.{err_from_is_err_and}
use Rattle.bitcode_untyped.specs.Bounds.{IsLimited}
use Rattle.bitcode_untyped.specs.Faults.{faults_of, value_faults}
use Rattle.bitcode_untyped.specs.Laws.{LengthsBelowLimit}
use Rattle.bitcode_untyped.specs.ShapeTree.{IsOf}
use Rattle.bitcode_untyped.specs.Spelling.{datum_text}
use Rattle.bitcode_untyped.specs.View.{datum_of, tree_of, tree_of_node, reference_limit}
use Rattle.bitcode_serde.specs.Serializing.{IsReadAs}
use Rattle.bitcode_serde.specs.Writing.{IsWriterReason}
use Rattle.bitcode_serde.proofs.ColumnLemmas.{passed_on}
use Rattle.bitcode_serde.proofs.WholeLemmas.{root_is}
use Rattle.bitcode_serde.proofs.WholeWritingLemmas.{root_faults, whole_written, whole_refused, read_back}
use Rattle.bitcode_serde.proofs.OutcomeLemmas.{if_ok, on_all}
use Rattle.bitcode_serde.proofs.WrittenLemmas.{if_err}
use Rattle.bitcode_serde.proofs.serialize.serialize.Goals as goal

pub returns-in_err-write-clause-refused : goal.returns-in_err-write-clause-refused
returns-in_err-write-clause-refused c =
    let y = err_from_is_err_and c.from_residual.result c.from_residual.ensures.1 in
    passed_on (λ e. IsWriterReason e.reason (value_faults c.args.shape.now c.args.value.now)) c.from_residual.result c.in_err-write.field-0.0 y.0 y.1 y.2
    (rw (root_faults c.args.shape.now c.table-table.result.now c.root.result c.index-table-root.result c.args.value.now c.table-table.ensures c.root.ensures
    c.index-table-root.is) (whole_refused (tree_of_node reference_limit c.table-table.result.now c.index-table-root.result) c.new-writer.result
    (faults_of c.table-table.result.now c.args.value.now reference_limit c.index-table-root.result) _ c.new-writer.ensures.empty c.in_err-write.ensures.refused))

pub returns-clause-written : goal.returns-clause-written
returns-clause-written c =
    let is = root_is c.args.shape.now c.table-table.result.now c.root.result c.index-table-root.result c.table-table.ensures c.root.ensures c.index-table-root.is in
    if_ok _ (λ bytes. bytes.items ≡ datum_text (tree_of c.args.shape.now) (datum_of c.args.value.now)) c.collect.result
    (λ bytes text. rw is (text ∙ whole_written (tree_of_node reference_limit c.table-table.result.now c.index-table-root.result) (datum_of c.args.value.now)
    c.new-writer.result c.write.new.writer c.new-writer.ensures.empty c.in_ok-write.ensures.written))
    c.collect.ensures.text

pub returns-clause-of_shape : goal.returns-clause-of_shape
returns-clause-of_shape c =
    let is = root_is c.args.shape.now c.table-table.result.now c.root.result c.index-table-root.result c.table-table.ensures c.root.ensures c.index-table-root.is in
    on_all (IsOf (tree_of c.args.shape.now) (datum_of c.args.value.now)) c.collect.result (rw is c.in_ok-write.ensures.of_tree)

pub returns-clause-whole : goal.returns-clause-whole
returns-clause-whole c =
    on_all (value_faults c.args.shape.now c.args.value.now ≡ []) c.collect.result
    (root_faults c.args.shape.now c.table-table.result.now c.root.result c.index-table-root.result c.args.value.now c.table-table.ensures c.root.ensures
    c.index-table-root.is ∙ c.in_ok-write.ensures.whole)

pub returns-clause-round_trip : goal.returns-clause-round_trip
returns-clause-round_trip c =
    let is = root_is c.args.shape.now c.table-table.result.now c.root.result c.index-table-root.result c.table-table.ensures c.root.ensures c.index-table-root.is in
    let s = tree_of c.args.shape.now in
    let of : IsOf s (datum_of c.args.value.now) = rw is c.in_ok-write.ensures.of_tree in
    let whole = root_faults c.args.shape.now c.table-table.result.now c.root.result c.index-table-root.result c.args.value.now c.table-table.ensures
    c.root.ensures c.index-table-root.is ∙ c.in_ok-write.ensures.whole in
    if_ok _ (λ bytes. IsLimited s (datum_of c.args.value.now) → LengthsBelowLimit s (datum_of c.args.value.now) → IsReadAs c.args.shape.now bytes.items
    c.args.value.now) c.collect.result
    (λ bytes text. read_back c.args.shape.now bytes.items c.args.value.now (rw is
    (text ∙ whole_written (tree_of_node reference_limit c.table-table.result.now c.index-table-root.result) (datum_of c.args.value.now) c.new-writer.result
    c.write.new.writer c.new-writer.ensures.empty c.in_ok-write.ensures.written)) of whole)
    c.collect.ensures.text

pub returns-clause-refused : goal.returns-clause-refused
returns-clause-refused c =
    if_err _ (λ e. IsWriterReason e.reason (value_faults c.args.shape.now c.args.value.now)) c.collect.result (λ e memory. inl memory) c.collect.ensures.refused
