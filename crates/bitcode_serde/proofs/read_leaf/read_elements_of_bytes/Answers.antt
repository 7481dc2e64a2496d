-- The bytes are taken at once.
use Rattle.std.proofs.Common.{map, ◌∙◌}
use Rattle.std.proofs.lemmas.List.{length-map}
use Rattle.std.proofs.lemmas.Result.{err_from_is_err_and}
use Rattle.bitcode_coder.specs.Spelling.{natural}
use Rattle.bitcode_untyped.specs.ShapeTree.{natural_tree}
use Rattle.bitcode_untyped.specs.Walk.{index_kind}
use Rattle.bitcode_serde.specs.ReadingValues.{IsListRefusalAt}
use Rattle.bitcode_serde.proofs.ColumnLemmas.{passed_on}
use Rattle.bitcode_serde.proofs.ValueLemmas.{continues_here, leaves_read, leaves_refused}
use Rattle.bitcode_serde.proofs.read_leaf.read_elements_of_bytes.Goals as goal

pub returns-clause-continues : goal.returns-clause-continues
returns-clause-continues c =
    continues_here c.args.reader.now c.take_bytes.new.self c.requires.steady c.take_bytes.ensures.below c.take_bytes.ensures.asked c.in_ok-bytes.ensures.sized

pub returns-clause-read : goal.returns-clause-read
returns-clause-read c =
    leaves_read c.args.reader.now c.take_bytes.new.self c.args.place c.args.count index_kind (map natural c.in_ok-bytes.bytes.items) c.in_ok-bytes.ensures.leads
    (length-map c.in_ok-bytes.bytes.items natural ∙ c.in_ok-bytes.ensures.size)

pub returns-in_err-bytes-clause-refused : goal.returns-in_err-bytes-clause-refused
returns-in_err-bytes-clause-refused c =
    let y = err_from_is_err_and c.from_residual.result c.from_residual.ensures.1 in
    passed_on (λ e. IsListRefusalAt (natural_tree 1) c.args.place c.args.reader.now c.args.count e.reason) c.from_residual.result c.in_err-bytes.field-0.0 y.0 y.1 y.2
    (leaves_refused c.args.reader.now c.args.place c.args.count index_kind _ c.in_err-bytes.ensures.refused)
