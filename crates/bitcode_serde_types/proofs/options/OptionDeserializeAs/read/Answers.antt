-- By the variant.
use Rattle.std.proofs.Common.{◌≡◌, arith, refl, Some, None}
use Rattle.std.proofs.lemmas.Result.{err_from_is_err_and}
use Rattle.bitcode_shapes.specs.Datum.{unit}
use Rattle.bitcode_untyped.specs.ShapeTree.{unit_tree, tree_and, no_trees, choice_tree}
use Rattle.bitcode_serde.proofs.ColumnLemmas.{passed_on}
use Rattle.bitcode_serde.proofs.ValueLemmas.{continues_on}
use Rattle.bitcode_serde_types.specs.Options.{option_datum}
use Rattle.bitcode_serde_types.specs.Refusals.{IsRefusalAt}
use Rattle.bitcode_serde_types.proofs.KeptLemmas.{unit_kept, choice_kept, payload_refused}
use Rattle.bitcode_serde_types.proofs.options.OptionDeserializeAs.read.Goals as goal

pub returns-in_err-found-clause-refused : goal.returns-in_err-found-clause-refused
returns-in_err-found-clause-refused g c =
    let ss = tree_and unit_tree (tree_and (g.T.HasShape.tree c.args.left) no_trees) in
    let y = err_from_is_err_and c.from_residual.result c.from_residual.ensures.1 in
    passed_on (λ e. IsRefusalAt (choice_tree ss) c.args.place c.args.reader.now e.reason) c.from_residual.result c.in_err-found.field-0.0 y.0 y.1 y.2
    (c.in_err-found.ensures.refused ss refl)

pub returns-then-found-eq0-clause-read : goal.returns-then-found-eq0-clause-read
returns-then-found-eq0-clause-read g c =
    let ss = tree_and unit_tree (tree_and (g.T.HasShape.tree c.args.left) no_trees) in
    let found = c.in_ok-found.found in
    let this : found.index ≡ 0 = omega arith in
    choice_kept (λ d. d) (option_datum g.T.HasShape.datum) ss found.index 0 unit_tree c.args.reader.now c.enter_variant.new.reader c.args.place found.place
    c.in_ok-found.ensures.enters this refl c.enter_variant.new.reader c.args.budget.now c.enter_variant.new.budget c.take.new.self unit None refl
    c.enter_variant.ensures.taken (unit_kept (λ d. d) found.place c.enter_variant.new.reader c.enter_variant.new.budget c.take.new.self unit refl c.take.ensures)

pub returns-in_err-value-clause-refused : goal.returns-in_err-value-clause-refused
returns-in_err-value-clause-refused g c =
    let s = g.T.HasShape.tree c.args.left in
    let ss = tree_and unit_tree (tree_and s no_trees) in
    let found = c.in_ok-found.found in
    let known = c.in_ok-found.ensures.known in
    let this : found.index ≡ 1 = omega (arith, known) in
    let y = err_from_is_err_and c.from_residual-in_err-value.result c.from_residual-in_err-value.ensures.1 in
    passed_on (λ e. IsRefusalAt (choice_tree ss) c.args.place c.args.reader.now e.reason) c.from_residual-in_err-value.result c.in_err-value.field-0.0 y.0 y.1 y.2
    (payload_refused ss found.index 1 s c.args.reader.now c.enter_variant.new.reader c.args.place found.place _ c.in_ok-found.ensures.enters this refl
    c.in_err-value.ensures.refused)

pub returns-clause-continues : goal.returns-clause-continues
returns-clause-continues g c =
    continues_on c.args.reader.now c.enter_variant.new.reader _ c.in_ok-found.ensures.continues c.in_ok-value.ensures.continues

pub returns-clause-read : goal.returns-clause-read
returns-clause-read g c =
    let s = g.T.HasShape.tree c.args.left in
    let ss = tree_and unit_tree (tree_and s no_trees) in
    let found = c.in_ok-found.found in
    let known = c.in_ok-found.ensures.known in
    let this : found.index ≡ 1 = omega (arith, known) in
    choice_kept g.T.HasShape.datum (option_datum g.T.HasShape.datum) ss found.index 1 s c.args.reader.now c.enter_variant.new.reader c.args.place found.place
    c.in_ok-found.ensures.enters this refl c.read.new.reader c.args.budget.now c.enter_variant.new.budget c.read.new.budget c.in_ok-value.value
    (Some c.in_ok-value.value) refl c.enter_variant.ensures.taken c.in_ok-value.ensures.read
