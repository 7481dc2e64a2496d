-- One field or element after another. Written by `scripts/second_format`.
use Rattle.std.proofs.Common.{rules, arith, ◌≡◌, ℕ, zero, suc, false, map, refl}
use Rattle.bitcode_serde_types.specs.Written.{Datum, list, data_of, column_free, bool_tree, natural_tree, integer_tree, text_tree, seq_tree, tuple_tree, no_trees, tree_and}
use Rattle.bitcode_serde_types.proofs.StepsRead.{no_fields_kept, place_there, too_deep, and_field, field_refused, and_fields, fields_refused, found_refused, all_fields_kept, no_items, items_there, and_item, item_stuck, and_list}
use Rattle.bitcode_recursive_types.specs.NodeShape.{node_tree, node_trees, node_step, node_datum}
use Rattle.bitcode_recursive_types.specs.declared.node.Node.TheFolds.{fold-roll-Node}
use Rattle.bitcode_recursive_types.proofs.node.+node.Goals as goal

node_columns : (n : ℕ) → false ≡ column_free (node_tree n)
node_columns zero = refl
node_columns (suc n) = refl

pub returns-in_err-below-clause-refused : goal.returns-in_err-below-clause-refused
returns-in_err-below-clause-refused t c =
    too_deep node_tree refl _ c.args.place c.from_residual.result c.in_err-below.field-0.0 c.from_residual.ensures.1 c.in_err-below.ensures.refused c.args.reader.now

pub returns-in_err-some0-clause-refused : goal.returns-in_err-some0-clause-refused
returns-in_err-some0-clause-refused t c =
    rw c.in_ok-below.ensures.followed (fields_refused (node_trees c.in_ok-below.below) (tree_and text_tree (tree_and (integer_tree 4) no_trees)) (tree_and (seq_tree (node_tree c.in_ok-below.below)) (tree_and (seq_tree (tuple_tree (tree_and (natural_tree 1) (tree_and bool_tree no_trees)))) no_trees)) (no_fields_kept (node_trees c.in_ok-below.below) c.args.place c.args.reader.now c.take.new.self c.requires.steady)
    c.from_residual-in_err-some0.result
    c.in_err-some0.field-0.0 c.from_residual-in_err-some0.ensures.1 c.in_err-some0.ensures.refused)

pub returns-in_err-found2-clause-refused : goal.returns-in_err-found2-clause-refused
returns-in_err-found2-clause-refused t c =
    let k0 = no_fields_kept (node_trees c.in_ok-below.below) c.args.place c.args.reader.now c.take.new.self c.requires.steady in
    let k1 = and_fields (node_trees c.in_ok-below.below) c.in_ok-some0.ensures.read k0 c.in_ok-some0.ensures.continues in
    rw c.in_ok-below.ensures.followed (found_refused k1 c.in_ok-place2.ensures.found c.from_residual-in_err-found2.result
    c.in_err-found2.field-0.0 c.from_residual-in_err-found2.ensures.1 (c.in_err-found2.ensures.refused (node_tree c.in_ok-below.below) (node_columns c.in_ok-below.below)))

pub read_node-requires : goal.read_node-requires
read_node-requires t c =
    search (rules, items_there c.loop-i.invariant c.in_ok-found2.ensures.inside, c.loop-i.invariant.continues.steady)

pub returns-in_err-item-clause-refused : goal.returns-in_err-item-clause-refused
returns-in_err-item-clause-refused t c =
    let k0 = no_fields_kept (node_trees c.in_ok-below.below) c.args.place c.args.reader.now c.take.new.self c.requires.steady in
    let k1 = and_fields (node_trees c.in_ok-below.below) c.in_ok-some0.ensures.read k0 c.in_ok-some0.ensures.continues in
    rw c.in_ok-below.ensures.followed (item_stuck k1 c.in_ok-place2.ensures.found c.loop-i.invariant c.in_ok-found2.ensures.enters (omega arith)
    c.from_residual-in_err-item.result c.in_err-item.field-0.0 c.from_residual-in_err-item.ensures.1 c.in_err-item.ensures.refused)

pub loop-i-init : goal.loop-i-init
loop-i-init t c = no_items node_datum (node_tree c.in_ok-below.below) _ _ _ _ c.in_ok-found2.ensures.continues.steady (search rules)

pub loop-i-preserved : goal.loop-i-preserved
loop-i-preserved t c = and_item c.loop-i.invariant c.in_ok-item.ensures.continues c.in_ok-item.ensures.read _ c.in_ok-keep.ensures.kept

pub read_field-requires : goal.read_field-requires
read_field-requires t c =
    let k0 = no_fields_kept (node_trees c.in_ok-below.below) c.args.place c.args.reader.now c.take.new.self c.requires.steady in
    let k1 = and_fields (node_trees c.in_ok-below.below) c.in_ok-some0.ensures.read k0 c.in_ok-some0.ensures.continues in
    let k2 = and_list k1 c.in_ok-place2.ensures.found c.loop-i.invariant c.in_ok-found2.ensures.enters c.in_ok-found2.ensures.continues (omega arith)
    (node_columns c.in_ok-below.below) c.enter_list.ensures.taken (λ v. list (data_of (map node_datum v.items))) c.loop-i.children refl in
    let there = place_there _ _ _ _ k2 c.requires.place in
    let steady = k2.continues.steady in
    search (rules, there, steady)

pub returns-in_err-labels-clause-refused : goal.returns-in_err-labels-clause-refused
returns-in_err-labels-clause-refused t c =
    let k0 = no_fields_kept (node_trees c.in_ok-below.below) c.args.place c.args.reader.now c.take.new.self c.requires.steady in
    let k1 = and_fields (node_trees c.in_ok-below.below) c.in_ok-some0.ensures.read k0 c.in_ok-some0.ensures.continues in
    let k2 = and_list k1 c.in_ok-place2.ensures.found c.loop-i.invariant c.in_ok-found2.ensures.enters c.in_ok-found2.ensures.continues (omega arith)
    (node_columns c.in_ok-below.below) c.enter_list.ensures.taken (λ v. list (data_of (map node_datum v.items))) c.loop-i.children refl in
    rw c.in_ok-below.ensures.followed (field_refused k2 c.from_residual-in_err-labels.result
    c.in_err-labels.field-0.0 c.from_residual-in_err-labels.ensures.1 c.in_err-labels.ensures.refused)

pub returns : goal.returns
returns t c =
    let k0 = no_fields_kept (node_trees c.in_ok-below.below) c.args.place c.args.reader.now c.take.new.self c.requires.steady in
    let k1 = and_fields (node_trees c.in_ok-below.below) c.in_ok-some0.ensures.read k0 c.in_ok-some0.ensures.continues in
    let k2 = and_list k1 c.in_ok-place2.ensures.found c.loop-i.invariant c.in_ok-found2.ensures.enters c.in_ok-found2.ensures.continues (omega arith)
    (node_columns c.in_ok-below.below) c.enter_list.ensures.taken (λ v. list (data_of (map node_datum v.items))) c.loop-i.children refl in
    let k3 = and_field k2 c.in_ok-labels.ensures.continues c.in_ok-labels.ensures.read in
    record { continues = k3.continues; read = rw c.in_ok-below.ensures.followed (let k = all_fields_kept k3 c.args.budget.now c.take.ensures node_datum _ (fold-roll-Node Datum node_step (record { name = c.in_ok-some0.some0.0; weight = c.in_ok-some0.some0.1.0; children = c.loop-i.children; labels = c.in_ok-labels.labels })) in search (rules, k)); refused = tt }
