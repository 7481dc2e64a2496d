-- The entries of the pairs that were read.
use Rattle.std.proofs.Common.{refl}
use Rattle.std.proofs.lemmas.Result.{err_from_is_err_and}
use Rattle.bitcode_untyped.specs.ShapeTree.{map_tree}
use Rattle.bitcode_serde.proofs.ColumnLemmas.{passed_on}
use Rattle.bitcode_serde_types.specs.Pairs.{map_datum}
use Rattle.bitcode_serde_types.specs.Refusals.{IsRefusalAt}
use Rattle.bitcode_serde_types.proofs.PairLemmas.{map_kept}
use Rattle.bitcode_serde_types.proofs.maps.HashMapDeserializeAs.read.Goals as goal

pub returns-in_err-pairs-clause-refused : goal.returns-in_err-pairs-clause-refused
returns-in_err-pairs-clause-refused g c =
    let s = map_tree (g.K.HasShape.tree c.args.left) (g.V.HasShape.tree c.args.left) in
    let y = err_from_is_err_and c.from_residual.result c.from_residual.ensures.1 in
    passed_on (λ e. IsRefusalAt s c.args.place c.args.reader.now e.reason) c.from_residual.result c.in_err-pairs.field-0.0 y.0 y.1 y.2
    c.in_err-pairs.ensures.refused

pub returns-clause-read : goal.returns-clause-read
returns-clause-read g c =
    let f = g.K.HasShape.datum in
    let h = g.V.HasShape.datum in
    let made = c.in_ok-made.made in
    map_kept f h (λ m. map_datum f h m.entries) (g.K.HasShape.tree c.args.left) (g.V.HasShape.tree c.args.left) c.args.place c.args.reader.now
    c.read_pairs.new.reader c.args.budget.now c.read_pairs.new.budget c.in_ok-pairs.pairs.items made.entries made refl (c.in_ok-made.ensures.entries h)
    c.in_ok-pairs.ensures.read
