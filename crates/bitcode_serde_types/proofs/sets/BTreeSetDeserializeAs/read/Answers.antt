-- The elements that were read.
use Rattle.std.proofs.Common.{map, refl}
use Rattle.bitcode_shapes.specs.Datum.{unit}
use Rattle.std.proofs.lemmas.Result.{err_from_is_err_and}
use Rattle.bitcode_untyped.specs.ShapeTree.{map_tree, unit_tree}
use Rattle.bitcode_serde.proofs.ColumnLemmas.{passed_on}
use Rattle.bitcode_serde_types.specs.Pairs.{set_datum, with_unit}
use Rattle.bitcode_serde_types.specs.Refusals.{IsRefusalAt}
use Rattle.bitcode_serde_types.proofs.PairLemmas.{map_kept}
use Rattle.bitcode_serde_types.proofs.sets.BTreeSetDeserializeAs.read.Goals as goal

pub returns-in_err-keys-clause-refused : goal.returns-in_err-keys-clause-refused
returns-in_err-keys-clause-refused g c =
    let s = map_tree (g.K.HasShape.tree c.args.left) unit_tree in
    let y = err_from_is_err_and c.from_residual.result c.from_residual.ensures.1 in
    passed_on (λ e. IsRefusalAt s c.args.place c.args.reader.now e.reason) c.from_residual.result c.in_err-keys.field-0.0 y.0 y.1 y.2
    c.in_err-keys.ensures.refused

pub returns-clause-read : goal.returns-clause-read
returns-clause-read g c =
    let f = g.K.HasShape.datum in
    let made = c.in_ok-made.made in
    map_kept f (λ u. unit) (λ s. set_datum f s.keys) (g.K.HasShape.tree c.args.left) unit_tree c.args.place c.args.reader.now c.read_keys.new.reader
    c.args.budget.now c.read_keys.new.budget (map with_unit c.in_ok-keys.keys.items) (map with_unit made.keys) made refl c.in_ok-made.ensures.entries
    c.in_ok-keys.ensures.read
