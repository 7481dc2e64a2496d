-- By the variant, which holds nothing.
use Rattle.std.proofs.Common.{◌≡◌, arith, refl}
use Rattle.std.proofs.lemmas.Result.{err_from_is_err_and}
use Rattle.std.specs.declared.cmp.Ordering.TheVariants.{Less, Equal, Greater}
use Rattle.bitcode_shapes.specs.Datum.{unit}
use Rattle.bitcode_untyped.specs.ShapeTree.{unit_tree, tree_and, no_trees}
use Rattle.bitcode_serde.proofs.ColumnLemmas.{passed_on}
use Rattle.bitcode_serde_types.specs.Orderings.{ordering_datum, ordering_tree}
use Rattle.bitcode_serde_types.specs.Refusals.{IsRefusalAt}
use Rattle.bitcode_serde_types.proofs.KeptLemmas.{choice_kept, unit_kept}
use Rattle.bitcode_serde_types.proofs.orderings.OrderingDeserializeAs.read.Goals as goal

pub returns-in_err-found-clause-refused : goal.returns-in_err-found-clause-refused
returns-in_err-found-clause-refused c =
    let ss = tree_and unit_tree (tree_and unit_tree (tree_and unit_tree no_trees)) in
    let y = err_from_is_err_and c.from_residual.result c.from_residual.ensures.1 in
    passed_on (λ e. IsRefusalAt ordering_tree c.args.place c.args.reader.now e.reason) c.from_residual.result c.in_err-found.field-0.0 y.0 y.1 y.2
    (c.in_err-found.ensures.refused ss refl)

pub returns-then-found-eq0-clause-read : goal.returns-then-found-eq0-clause-read
returns-then-found-eq0-clause-read c =
    let ss = tree_and unit_tree (tree_and unit_tree (tree_and unit_tree no_trees)) in
    let found = c.in_ok-found.found in
    let this : found.index ≡ 0 = omega arith in
    let mid = c.enter_variant.new.reader in
    choice_kept (λ d. d) ordering_datum ss found.index 0 unit_tree c.args.reader.now mid c.args.place found.place c.in_ok-found.ensures.enters this refl mid
    c.args.budget.now c.enter_variant.new.budget c.take.new.self unit Less refl c.enter_variant.ensures.taken
    (unit_kept (λ d. d) found.place mid c.enter_variant.new.budget c.take.new.self unit refl c.take.ensures)

pub returns-then-found-eq1-clause-read : goal.returns-then-found-eq1-clause-read
returns-then-found-eq1-clause-read c =
    let ss = tree_and unit_tree (tree_and unit_tree (tree_and unit_tree no_trees)) in
    let found = c.in_ok-found.found in
    let this : found.index ≡ 1 = omega arith in
    let mid = c.enter_variant.new.reader in
    choice_kept (λ d. d) ordering_datum ss found.index 1 unit_tree c.args.reader.now mid c.args.place found.place c.in_ok-found.ensures.enters this refl mid
    c.args.budget.now c.enter_variant.new.budget c.take.new.self unit Equal refl c.enter_variant.ensures.taken
    (unit_kept (λ d. d) found.place mid c.enter_variant.new.budget c.take.new.self unit refl c.take.ensures)

pub returns-clause-read : goal.returns-clause-read
returns-clause-read c =
    let ss = tree_and unit_tree (tree_and unit_tree (tree_and unit_tree no_trees)) in
    let found = c.in_ok-found.found in
    let known = c.in_ok-found.ensures.known in
    let this : found.index ≡ 2 = omega (arith, known) in
    let mid = c.enter_variant.new.reader in
    choice_kept (λ d. d) ordering_datum ss found.index 2 unit_tree c.args.reader.now mid c.args.place found.place c.in_ok-found.ensures.enters this refl mid
    c.args.budget.now c.enter_variant.new.budget c.take.new.self unit Greater refl c.enter_variant.ensures.taken
    (unit_kept (λ d. d) found.place mid c.enter_variant.new.budget c.take.new.self unit refl c.take.ensures)
