-- Reading from the root.
use Rattle.std.proofs.Common.{◌≢◌, ◌∙◌, refl}
use Rattle.std.proofs.lemmas.Result.{err_from_is_err_and}
use Rattle.bitcode_memory.specs.declared.error.Reason.TheVariants.{OutOfMemory}
use Rattle.bitcode_shapes.specs.Datum.{Datum}
use Rattle.bitcode_untyped.specs.Spelling.{SpellsDatum}
use Rattle.bitcode_untyped.specs.View.{tree_of, tree_of_node, reference_limit}
use Rattle.bitcode_serde.specs.ReadingValues.{IsValueReason}
use Rattle.bitcode_serde.proofs.ColumnLemmas.{passed_on}
use Rattle.bitcode_serde.proofs.WholeLemmas.{spelled, strictly_told, more_behind, none_found, root_is, root_whole}
use Rattle.bitcode_serde.proofs.deserialize.read_whole.Goals as goal

pub returns-in_err-value-clause-refused : goal.returns-in_err-value-clause-refused
returns-in_err-value-clause-refused c =
    let y = err_from_is_err_and c.from_residual.result c.from_residual.ensures.1 in
    let is = root_is c.args.shape.now c.table-table.result.now c.root.result c.index-table-root.result c.table-table.ensures c.root.ensures c.index-table-root.is in
    passed_on (λ e. IsValueReason e.reason × (e.reason ≢ OutOfMemory → (d : Datum) → SpellsDatum (tree_of c.args.shape.now) c.args.bytes.now d → ⊥)) c.from_residual.result
    c.in_err-value.field-0.0 y.0 y.1 y.2
    (rw is (none_found (tree_of_node reference_limit c.table-table.result.now c.index-table-root.result) c.args.bytes.now c.new-reader.result _ c.new-reader.ensures.stands c.in_err-value.ensures.refused))

pub returns-then-not-is_at_end-clause-refused : goal.returns-then-not-is_at_end-clause-refused
returns-then-not-is_at_end-clause-refused c =
    let is = root_is c.args.shape.now c.table-table.result.now c.root.result c.index-table-root.result c.table-table.ensures c.root.ensures c.index-table-root.is in
    passed_on (λ e. IsValueReason e.reason × (e.reason ≢ OutOfMemory → (d : Datum) → SpellsDatum (tree_of c.args.shape.now) c.args.bytes.now d → ⊥)) c.err.result _ _ c.err.ensures refl (
      tt,
      λ other. rw is (more_behind (tree_of_node reference_limit c.table-table.result.now c.index-table-root.result) c.args.bytes.now c.in_ok-value.ensures.read.datum c.new-reader.result c.read.new.reader
          c.new-reader.ensures.stands c.in_ok-value.ensures.read.read c.if-not-is_at_end.ensures),
    )

pub returns-clause-read : goal.returns-clause-read
returns-clause-read c =
    let is = root_is c.args.shape.now c.table-table.result.now c.root.result c.index-table-root.result c.table-table.ensures c.root.ensures c.index-table-root.is in
    let k = c.in_ok-value.ensures.read in
    record {
      datum = k.datum;
      read = rw is (spelled (tree_of_node reference_limit c.table-table.result.now c.index-table-root.result) c.args.bytes.now k.datum c.new-reader.result
          c.read.new.reader c.new-reader.ensures.stands k.read c.if-not-is_at_end.ensures);
      taken = k.taken;
      same = k.same;
    }

pub returns-clause-whole : goal.returns-clause-whole
returns-clause-whole c = λ left.
    root_whole c.args.shape.now c.table-table.result.now c.root.result c.index-table-root.result c.in_ok-value.value c.table-table.ensures c.root.ensures c.index-table-root.is
    (c.in_ok-value.ensures.whole left)

pub returns-clause-judged : goal.returns-clause-judged
returns-clause-judged c = λ strict left.
    let is = root_is c.args.shape.now c.table-table.result.now c.root.result c.index-table-root.result c.table-table.ensures c.root.ensures c.index-table-root.is in
    let k = c.in_ok-value.ensures.read in
    rw (is, c.is_written.ensures, k.same left) (strictly_told (tree_of_node reference_limit c.table-table.result.now c.index-table-root.result) c.args.bytes.now k.datum
    c.new-reader.result c.read.new.reader c.new-reader.ensures.stands k.read c.if-not-is_at_end.ensures
    (c.in_ok-value.ensures.continues.asked.bytes ∙ c.new-reader.ensures.bytes) (c.in_ok-value.ensures.continues.asked.strict ∙ c.new-reader.ensures.strict ∙ strict))
