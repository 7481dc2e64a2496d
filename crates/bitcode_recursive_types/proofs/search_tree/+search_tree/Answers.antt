-- One field or element after another. Written by `scripts/second_format`.
use Rattle.std.proofs.Common.{rules, arith, Some, None, refl, ◌∙◌}
use Rattle.bitcode_serde_types.specs.Written.{Datum, unit_tree, choice_tree, no_trees, tree_and, option_datum}
use Rattle.bitcode_serde_types.proofs.StepsRead.{continues_on, no_fields_kept, place_there, refused_on, too_deep, and_field, field_refused, and_found, found_refused, all_fields_kept, variant_refused, variant_kept, unit_variant_kept}
use Rattle.bitcode_recursive_types.specs.SearchTreeShape.{search_tree_tree, search_tree_trees, search_tree_step, search_tree_datum}
use Rattle.bitcode_recursive_types.specs.declared.search_tree.SearchTree.TheFolds.{fold-roll-SearchTree}
use Rattle.bitcode_recursive_types.proofs.SearchTreeLemmas.{search_tree_content}
use Rattle.bitcode_recursive_types.proofs.search_tree.+search_tree.Goals as goal

pub read_search_tree-returns-in_err-below-clause-refused : goal.read_search_tree-returns-in_err-below-clause-refused
read_search_tree-returns-in_err-below-clause-refused t c =
    too_deep search_tree_tree refl _ c.args.place c.from_residual.result c.in_err-below.field-0.0 c.from_residual.ensures.1 c.in_err-below.ensures.refused c.args.reader.now

pub read_search_tree-returns-in_err-field0-clause-refused : goal.read_search_tree-returns-in_err-field0-clause-refused
read_search_tree-returns-in_err-field0-clause-refused t c =
    rw c.in_ok-below.ensures.followed (found_refused (no_fields_kept (search_tree_trees c.in_ok-below.below) c.args.place c.args.reader.now c.take.new.self c.requires.steady) c.in_ok-place0.ensures.found c.from_residual-in_err-field0.result
    c.in_err-field0.field-0.0 c.from_residual-in_err-field0.ensures.1 c.in_err-field0.ensures.refused)

pub read_search_tree-read_field-requires : goal.read_search_tree-read_field-requires
read_search_tree-read_field-requires t c =
    let k0 = no_fields_kept (search_tree_trees c.in_ok-below.below) c.args.place c.args.reader.now c.take.new.self c.requires.steady in
    let k1 = and_found k0 c.in_ok-place0.ensures.found c.in_ok-field0.ensures.continues c.in_ok-field0.ensures.read in
    let there = place_there _ _ _ _ k1 c.requires.place in
    let steady = k1.continues.steady in
    search (rules, there, steady)

pub read_search_tree-returns-in_err-field1-clause-refused : goal.read_search_tree-returns-in_err-field1-clause-refused
read_search_tree-returns-in_err-field1-clause-refused t c =
    let k0 = no_fields_kept (search_tree_trees c.in_ok-below.below) c.args.place c.args.reader.now c.take.new.self c.requires.steady in
    let k1 = and_found k0 c.in_ok-place0.ensures.found c.in_ok-field0.ensures.continues c.in_ok-field0.ensures.read in
    rw c.in_ok-below.ensures.followed (field_refused k1 c.from_residual-in_err-field1.result
    c.in_err-field1.field-0.0 c.from_residual-in_err-field1.ensures.1 c.in_err-field1.ensures.refused)

pub read_search_tree-returns-in_err-right-clause-refused : goal.read_search_tree-returns-in_err-right-clause-refused
read_search_tree-returns-in_err-right-clause-refused t c =
    let k0 = no_fields_kept (search_tree_trees c.in_ok-below.below) c.args.place c.args.reader.now c.take.new.self c.requires.steady in
    let k1 = and_found k0 c.in_ok-place0.ensures.found c.in_ok-field0.ensures.continues c.in_ok-field0.ensures.read in
    let k2 = and_field k1 c.in_ok-field1.ensures.continues c.in_ok-field1.ensures.read in
    rw c.in_ok-below.ensures.followed (found_refused k2 c.in_ok-place2.ensures.found c.from_residual-in_err-right.result
    c.in_err-right.field-0.0 c.from_residual-in_err-right.ensures.1 c.in_err-right.ensures.refused)

pub read_search_tree-returns : goal.read_search_tree-returns
read_search_tree-returns t c =
    let k0 = no_fields_kept (search_tree_trees c.in_ok-below.below) c.args.place c.args.reader.now c.take.new.self c.requires.steady in
    let k1 = and_found k0 c.in_ok-place0.ensures.found c.in_ok-field0.ensures.continues c.in_ok-field0.ensures.read in
    let k2 = and_field k1 c.in_ok-field1.ensures.continues c.in_ok-field1.ensures.read in
    let k3 = and_found k2 c.in_ok-place2.ensures.found c.in_ok-right.ensures.continues c.in_ok-right.ensures.read in
    record { continues = k3.continues; read = rw c.in_ok-below.ensures.followed (all_fields_kept k3 c.args.budget.now c.take.ensures search_tree_datum _ (fold-roll-SearchTree Datum search_tree_step (record { left = c.in_ok-field0.field0; key = c.in_ok-field1.field1; right = c.in_ok-right.right }) ∙ search_tree_content (record { left = c.in_ok-field0.field0; key = c.in_ok-field1.field1; right = c.in_ok-right.right }))); refused = tt }

pub read_search_tree_option-returns-in_err-found-clause-refused : goal.read_search_tree_option-returns-in_err-found-clause-refused
read_search_tree_option-returns-in_err-found-clause-refused t c =
    refused_on (choice_tree (tree_and unit_tree (tree_and (search_tree_tree c.args.left) no_trees))) c.args.place c.args.reader.now
    c.from_residual.result c.in_err-found.field-0.0 c.from_residual.ensures.1 (c.in_err-found.ensures.refused (tree_and unit_tree (tree_and (search_tree_tree c.args.left) no_trees)) refl)

pub read_search_tree_option-returns-then-found-eq0-clause-read : goal.read_search_tree_option-returns-then-found-eq0-clause-read
read_search_tree_option-returns-then-found-eq0-clause-read t c =
    unit_variant_kept (tree_and unit_tree (tree_and (search_tree_tree c.args.left) no_trees)) 0 c.in_ok-found.ensures.enters (omega (arith, c.in_ok-found.ensures.known)) refl
    c.args.budget.now c.enter_variant.ensures.taken c.take.ensures (option_datum (λ b. search_tree_datum b.value)) None refl

pub read_search_tree_option-returns-in_err-value-clause-refused : goal.read_search_tree_option-returns-in_err-value-clause-refused
read_search_tree_option-returns-in_err-value-clause-refused t c =
    variant_refused (tree_and unit_tree (tree_and (search_tree_tree c.args.left) no_trees)) 1 c.in_ok-found.ensures.enters (omega (arith, c.in_ok-found.ensures.known))
    c.from_residual-in_err-value.result c.in_err-value.field-0.0 c.from_residual-in_err-value.ensures.1 c.in_err-value.ensures.refused

pub read_search_tree_option-returns-clause-continues : goal.read_search_tree_option-returns-clause-continues
read_search_tree_option-returns-clause-continues t c = continues_on _ _ _ c.in_ok-found.ensures.continues c.in_ok-value.ensures.continues

pub read_search_tree_option-returns-clause-read : goal.read_search_tree_option-returns-clause-read
read_search_tree_option-returns-clause-read t c =
    variant_kept (tree_and unit_tree (tree_and (search_tree_tree c.args.left) no_trees)) 1 c.in_ok-found.ensures.enters (omega (arith, c.in_ok-found.ensures.known))
    c.args.budget.now c.enter_variant.ensures.taken c.in_ok-value.ensures.read (option_datum (λ b. search_tree_datum b.value)) (Some c.in_ok-held.held) (rw c.in_ok-held.ensures.ok refl)
