-- A leaf is an entry of its column.
use Rattle.std.proofs.lemmas.Result.{err_from_is_err_and}
use Rattle.bitcode_shapes.specs.Shape.{any_number}
use Rattle.bitcode_untyped.specs.Reads.{ReadsNoDatum}
use Rattle.bitcode_untyped.specs.ShapeTree.{leaf_tree}
use Rattle.bitcode_untyped.proofs.ReadLemmas.{leaf_stuck}
use Rattle.bitcode_serde.specs.ReadColumns.{kind_of}
use Rattle.bitcode_serde.specs.ReadingValues.{IsRefusalAt}
use Rattle.bitcode_serde.proofs.ColumnLemmas.{passed_on}
use Rattle.bitcode_serde.proofs.ValueLemmas.{refused_entry}
use Rattle.bitcode_serde.proofs.read_leaf.read_leaf.Goals as goal

pub returns-in_err-value-clause-refused : goal.returns-in_err-value-clause-refused
returns-in_err-value-clause-refused c =
    let y = err_from_is_err_and c.from_residual.result c.from_residual.ensures.1 in
    let kind = kind_of c.args.kind in
    passed_on (λ e. IsRefusalAt (leaf_tree kind any_number) c.args.place c.args.reader.now e.reason) c.from_residual.result c.in_err-value.field-0.0 y.0 y.1 y.2
    (refused_entry c.args.reader.now c.args.place kind (ReadsNoDatum (leaf_tree kind any_number)) _ (λ p a stuck. leaf_stuck kind any_number p a stuck) c.in_err-value.ensures.refused)
