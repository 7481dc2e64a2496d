-- One field or element after another. Written by `scripts/second_format`.
use Rattle.std.proofs.Common.{rules, arith, ◌≡◌, ◌<◌, ℕ, zero, suc, false, [], map, refl, ap, sym, subst, ◌∙◌, string_bytes}
use Rattle.bitcode_serde_types.specs.Written.{Datum, text, list, tuple, choice, no_data, datum_and, data_of, column_free, text_tree, map_tree, choice_tree, map_datum}
use Rattle.bitcode_serde_types.proofs.StepsRead.{continues_on, still_there, no_fields_kept, place_there, PairsKept, no_memory, no_pairs, pairs_more, keys_there, values_there, key_not_kept, value_not_kept, pairs_kept, map_kept, entries_mapped, refused_on, too_deep, and_field, field_refused, and_found, found_refused, all_fields_kept, no_items, items_there, and_item, item_stuck, and_list, variant_refused, variant_kept}
use Rattle.bitcode_recursive_types.specs.ExprShape.{expr_tree, expr_trees, expr_step, expr_datum, expr_add_trees, expr_call_trees, expr_bind_trees}
use Rattle.bitcode_recursive_types.specs.declared.expr.Expr.TheFolds.{fold-roll-Expr}
use Rattle.bitcode_recursive_types.specs.declared.expr.Expr.TheVariants as expr'
use Rattle.bitcode_recursive_types.specs.declared.expr.Expr.TheOpen.{Expr-F}
use Rattle.bitcode_recursive_types.proofs.expr.+expr.Goals as goal

expr_columns : (n : ℕ) → false ≡ column_free (expr_tree n)
expr_columns zero = refl
expr_columns (suc n) = refl

pub read_expr-returns-in_err-below-clause-refused : goal.read_expr-returns-in_err-below-clause-refused
read_expr-returns-in_err-below-clause-refused t c =
    too_deep expr_tree refl _ c.args.place c.from_residual.result c.in_err-below.field-0.0 c.from_residual.ensures.1 c.in_err-below.ensures.refused c.args.reader.now

pub read_expr-returns-in_err-found-clause-refused : goal.read_expr-returns-in_err-found-clause-refused
read_expr-returns-in_err-found-clause-refused t c =
    let ss = expr_trees c.in_ok-below.below in
    rw c.in_ok-below.ensures.followed
    (refused_on (choice_tree ss) c.args.place c.args.reader.now c.from_residual-in_err-found.result c.in_err-found.field-0.0 c.from_residual-in_err-found.ensures.1 (c.in_err-found.ensures.refused ss refl))

pub read_expr-returns-in_err-held-in-0-clause-refused : goal.read_expr-returns-in_err-held-in-0-clause-refused
read_expr-returns-in_err-held-in-0-clause-refused t c =
    rw c.in_ok-below.ensures.followed
    (variant_refused (expr_trees c.in_ok-below.below) 0 c.in_ok-found.ensures.enters (omega (arith, c.in_ok-found.ensures.known))
    c.from_residual-in_err-held-in-0.result c.in_err-held-in-0.field-0.0 c.from_residual-in_err-held-in-0.ensures.1 c.in_err-held-in-0.ensures.refused)

pub read_expr-returns-in_ok-held-in-0-clause-continues : goal.read_expr-returns-in_ok-held-in-0-clause-continues
read_expr-returns-in_ok-held-in-0-clause-continues t c = continues_on _ _ _ c.in_ok-found.ensures.continues c.in_ok-held-in-0.ensures.continues

pub read_expr-returns-in_ok-held-in-0-clause-read : goal.read_expr-returns-in_ok-held-in-0-clause-read
read_expr-returns-in_ok-held-in-0-clause-read t c =
    rw c.in_ok-below.ensures.followed
    (let k = variant_kept (expr_trees c.in_ok-below.below) 0 c.in_ok-found.ensures.enters (omega (arith, c.in_ok-found.ensures.known))
    c.args.budget.now c.enter_variant.ensures.taken c.in_ok-held-in-0.ensures.read expr_datum (expr'.Num c.in_ok-held-in-0.held) (ap expr_datum (sym (expr'.rolls-Num c.in_ok-held-in-0.held)) ∙ fold-roll-Expr Datum expr_step (Expr-F.Num c.in_ok-held-in-0.held)) in
    search (rules, k))

pub read_expr-returns-in_err-value-in-1-clause-refused : goal.read_expr-returns-in_err-value-in-1-clause-refused
read_expr-returns-in_err-value-in-1-clause-refused t c =
    rw c.in_ok-below.ensures.followed
    (variant_refused (expr_trees c.in_ok-below.below) 1 c.in_ok-found.ensures.enters (omega (arith, c.in_ok-found.ensures.known))
    c.from_residual-in_err-value-in-1.result c.in_err-value-in-1.field-0.0 c.from_residual-in_err-value-in-1.ensures.1 c.in_err-value-in-1.ensures.refused)

pub read_expr-returns-in_ok-held-in-1-clause-continues : goal.read_expr-returns-in_ok-held-in-1-clause-continues
read_expr-returns-in_ok-held-in-1-clause-continues t c = continues_on _ _ _ c.in_ok-found.ensures.continues c.in_ok-value-in-1.ensures.continues

pub read_expr-returns-in_ok-held-in-1-clause-read : goal.read_expr-returns-in_ok-held-in-1-clause-read
read_expr-returns-in_ok-held-in-1-clause-read t c =
    rw c.in_ok-below.ensures.followed
    (variant_kept (expr_trees c.in_ok-below.below) 1 c.in_ok-found.ensures.enters (omega (arith, c.in_ok-found.ensures.known))
    c.args.budget.now c.enter_variant.ensures.taken c.in_ok-value-in-1.ensures.read expr_datum _ (ap expr_datum (sym (expr'.rolls-Neg c.in_ok-held-in-1.held)) ∙ fold-roll-Expr Datum expr_step (Expr-F.Neg c.in_ok-held-in-1.held) ∙ rw c.in_ok-held-in-1.ensures.ok refl))

pub read_expr-returns-in_err-held-in-2-clause-refused : goal.read_expr-returns-in_err-held-in-2-clause-refused
read_expr-returns-in_err-held-in-2-clause-refused t c =
    rw c.in_ok-below.ensures.followed
    (variant_refused (expr_trees c.in_ok-below.below) 2 c.in_ok-found.ensures.enters (omega (arith, c.in_ok-found.ensures.known))
    c.from_residual-in_err-held-in-2.result c.in_err-held-in-2.field-0.0 c.from_residual-in_err-held-in-2.ensures.1 c.in_err-held-in-2.ensures.refused)

pub read_expr-returns-in_ok-held-in-2-clause-continues : goal.read_expr-returns-in_ok-held-in-2-clause-continues
read_expr-returns-in_ok-held-in-2-clause-continues t c = continues_on _ _ _ c.in_ok-found.ensures.continues c.in_ok-held-in-2.ensures.continues

pub read_expr-returns-in_ok-held-in-2-clause-read : goal.read_expr-returns-in_ok-held-in-2-clause-read
read_expr-returns-in_ok-held-in-2-clause-read t c =
    rw c.in_ok-below.ensures.followed
    (variant_kept (expr_trees c.in_ok-below.below) 2 c.in_ok-found.ensures.enters (omega (arith, c.in_ok-found.ensures.known))
    c.args.budget.now c.enter_variant.ensures.taken c.in_ok-held-in-2.ensures.read expr_datum _ (ap expr_datum (sym (expr'.rolls-Add c.in_ok-held-in-2.held.0 c.in_ok-held-in-2.held.1)) ∙ fold-roll-Expr Datum expr_step (Expr-F.Add c.in_ok-held-in-2.held.0 c.in_ok-held-in-2.held.1)))

pub read_expr-returns-in_err-held-in-3-clause-refused : goal.read_expr-returns-in_err-held-in-3-clause-refused
read_expr-returns-in_err-held-in-3-clause-refused t c =
    rw c.in_ok-below.ensures.followed
    (variant_refused (expr_trees c.in_ok-below.below) 3 c.in_ok-found.ensures.enters (omega (arith, c.in_ok-found.ensures.known))
    c.from_residual-in_err-held-in-3.result c.in_err-held-in-3.field-0.0 c.from_residual-in_err-held-in-3.ensures.1 c.in_err-held-in-3.ensures.refused)

pub read_expr-returns-in_ok-held-in-3-clause-continues : goal.read_expr-returns-in_ok-held-in-3-clause-continues
read_expr-returns-in_ok-held-in-3-clause-continues t c = continues_on _ _ _ c.in_ok-found.ensures.continues c.in_ok-held-in-3.ensures.continues

pub read_expr-returns-in_ok-held-in-3-clause-read : goal.read_expr-returns-in_ok-held-in-3-clause-read
read_expr-returns-in_ok-held-in-3-clause-read t c =
    rw c.in_ok-below.ensures.followed
    (variant_kept (expr_trees c.in_ok-below.below) 3 c.in_ok-found.ensures.enters (omega (arith, c.in_ok-found.ensures.known))
    c.args.budget.now c.enter_variant.ensures.taken c.in_ok-held-in-3.ensures.read expr_datum _ (ap expr_datum (sym (expr'.rolls-Call c.in_ok-held-in-3.held.0 c.in_ok-held-in-3.held.1)) ∙ fold-roll-Expr Datum expr_step (Expr-F.Call c.in_ok-held-in-3.held.0 c.in_ok-held-in-3.held.1)))

pub read_expr-returns-in_err-held-in_default-clause-refused : goal.read_expr-returns-in_err-held-in_default-clause-refused
read_expr-returns-in_err-held-in_default-clause-refused t c =
    rw c.in_ok-below.ensures.followed
    (variant_refused (expr_trees c.in_ok-below.below) 4 c.in_ok-found.ensures.enters (omega (arith, c.in_ok-found.ensures.known))
    c.from_residual-in_err-held-in_default.result c.in_err-held-in_default.field-0.0 c.from_residual-in_err-held-in_default.ensures.1 c.in_err-held-in_default.ensures.refused)

pub read_expr-returns-in_ok-held-in_default-clause-continues : goal.read_expr-returns-in_ok-held-in_default-clause-continues
read_expr-returns-in_ok-held-in_default-clause-continues t c = continues_on _ _ _ c.in_ok-found.ensures.continues c.in_ok-held-in_default.ensures.continues

pub read_expr-returns-in_ok-held-in_default-clause-read : goal.read_expr-returns-in_ok-held-in_default-clause-read
read_expr-returns-in_ok-held-in_default-clause-read t c =
    rw c.in_ok-below.ensures.followed
    (variant_kept (expr_trees c.in_ok-below.below) 4 c.in_ok-found.ensures.enters (omega (arith, c.in_ok-found.ensures.known))
    c.args.budget.now c.enter_variant.ensures.taken c.in_ok-held-in_default.ensures.read expr_datum _ (ap expr_datum (sym (expr'.rolls-Bind c.in_ok-held-in_default.held.0 c.in_ok-held-in_default.held.1)) ∙ fold-roll-Expr Datum expr_step (Expr-F.Bind c.in_ok-held-in_default.held.0 c.in_ok-held-in_default.held.1)
    ∙ ap (λ z. choice 4 (tuple (datum_and z (datum_and (expr_datum c.in_ok-held-in_default.held.1.value) no_data)))) (entries_mapped (λ s. text (string_bytes s)) expr_datum c.in_ok-held-in_default.held.0.entries)))

pub read_expr_add-returns-in_err-value0-clause-refused : goal.read_expr_add-returns-in_err-value0-clause-refused
read_expr_add-returns-in_err-value0-clause-refused t c =
    found_refused (no_fields_kept (expr_add_trees c.args.left) c.args.place c.args.reader.now c.take.new.self c.requires.steady) c.in_ok-place0.ensures.found c.from_residual-in_err-value0.result
    c.in_err-value0.field-0.0 c.from_residual-in_err-value0.ensures.1 c.in_err-value0.ensures.refused

pub read_expr_add-find_field-requires-2 : goal.read_expr_add-find_field-requires-2
read_expr_add-find_field-requires-2 t c =
    let k0 = no_fields_kept (expr_add_trees c.args.left) c.args.place c.args.reader.now c.take.new.self c.requires.steady in
    let k1 = and_found k0 c.in_ok-place0.ensures.found c.in_ok-value0.ensures.continues c.in_ok-value0.ensures.read in
    record { place = place_there _ _ _ _ k1 c.requires.place; steady = k1.continues.steady }

pub read_expr_add-returns-in_err-value1-clause-refused : goal.read_expr_add-returns-in_err-value1-clause-refused
read_expr_add-returns-in_err-value1-clause-refused t c =
    let k0 = no_fields_kept (expr_add_trees c.args.left) c.args.place c.args.reader.now c.take.new.self c.requires.steady in
    let k1 = and_found k0 c.in_ok-place0.ensures.found c.in_ok-value0.ensures.continues c.in_ok-value0.ensures.read in
    found_refused k1 c.in_ok-place1.ensures.found c.from_residual-in_err-value1.result
    c.in_err-value1.field-0.0 c.from_residual-in_err-value1.ensures.1 c.in_err-value1.ensures.refused

pub read_expr_add-returns : goal.read_expr_add-returns
read_expr_add-returns t c =
    let k0 = no_fields_kept (expr_add_trees c.args.left) c.args.place c.args.reader.now c.take.new.self c.requires.steady in
    let k1 = and_found k0 c.in_ok-place0.ensures.found c.in_ok-value0.ensures.continues c.in_ok-value0.ensures.read in
    let k2 = and_found k1 c.in_ok-place1.ensures.found c.in_ok-value1.ensures.continues c.in_ok-value1.ensures.read in
    record { continues = k2.continues; read = all_fields_kept k2 c.args.budget.now c.take.ensures (λ t. tuple (datum_and (expr_datum t.0.value) (datum_and (expr_datum t.1.value) no_data))) _ (rw (c.in_ok-field0.ensures.ok, c.in_ok-field1.ensures.ok) refl); refused = tt }

pub read_expr_call-returns-in_err-field0-clause-refused : goal.read_expr_call-returns-in_err-field0-clause-refused
read_expr_call-returns-in_err-field0-clause-refused t c =
    field_refused (no_fields_kept (expr_call_trees c.args.left) c.args.place c.args.reader.now c.take.new.self c.requires.steady) c.from_residual.result
    c.in_err-field0.field-0.0 c.from_residual.ensures.1 c.in_err-field0.ensures.refused

pub read_expr_call-returns-in_err-found1-clause-refused : goal.read_expr_call-returns-in_err-found1-clause-refused
read_expr_call-returns-in_err-found1-clause-refused t c =
    let k0 = no_fields_kept (expr_call_trees c.args.left) c.args.place c.args.reader.now c.take.new.self c.requires.steady in
    let k1 = and_field k0 c.in_ok-field0.ensures.continues c.in_ok-field0.ensures.read in
    found_refused k1 c.in_ok-place1.ensures.found c.from_residual-in_err-found1.result
    c.in_err-found1.field-0.0 c.from_residual-in_err-found1.ensures.1 (c.in_err-found1.ensures.refused (expr_tree c.args.left) (expr_columns c.args.left))

pub read_expr_call-read_expr-requires : goal.read_expr_call-read_expr-requires
read_expr_call-read_expr-requires t c =
    search (rules, items_there c.loop-i.invariant c.in_ok-found1.ensures.inside, c.loop-i.invariant.continues.steady)

pub read_expr_call-returns-in_err-item-clause-refused : goal.read_expr_call-returns-in_err-item-clause-refused
read_expr_call-returns-in_err-item-clause-refused t c =
    let k0 = no_fields_kept (expr_call_trees c.args.left) c.args.place c.args.reader.now c.take.new.self c.requires.steady in
    let k1 = and_field k0 c.in_ok-field0.ensures.continues c.in_ok-field0.ensures.read in
    item_stuck k1 c.in_ok-place1.ensures.found c.loop-i.invariant c.in_ok-found1.ensures.enters (omega arith)
    c.from_residual-in_err-item.result c.in_err-item.field-0.0 c.from_residual-in_err-item.ensures.1 c.in_err-item.ensures.refused

pub read_expr_call-loop-i-init : goal.read_expr_call-loop-i-init
read_expr_call-loop-i-init t c = no_items expr_datum (expr_tree c.args.left) _ _ _ _ c.in_ok-found1.ensures.continues.steady (search rules)

pub read_expr_call-loop-i-preserved : goal.read_expr_call-loop-i-preserved
read_expr_call-loop-i-preserved t c = and_item c.loop-i.invariant c.in_ok-item.ensures.continues c.in_ok-item.ensures.read _ c.in_ok-keep.ensures.kept

pub read_expr_call-returns : goal.read_expr_call-returns
read_expr_call-returns t c =
    let k0 = no_fields_kept (expr_call_trees c.args.left) c.args.place c.args.reader.now c.take.new.self c.requires.steady in
    let k1 = and_field k0 c.in_ok-field0.ensures.continues c.in_ok-field0.ensures.read in
    let k2 = and_list k1 c.in_ok-place1.ensures.found c.loop-i.invariant c.in_ok-found1.ensures.enters c.in_ok-found1.ensures.continues (omega arith)
    (expr_columns c.args.left) c.enter_list.ensures.taken (λ v. list (data_of (map expr_datum v.items))) c.loop-i.field1 refl in
    record { continues = k2.continues; read = all_fields_kept k2 c.args.budget.now c.take.ensures (λ t. tuple (datum_and (text (string_bytes t.0)) (datum_and (list (data_of (map expr_datum t.1.items))) no_data))) _ (refl); refused = tt }

pub read_expr_bind-returns-in_err-field0-clause-refused : goal.read_expr_bind-returns-in_err-field0-clause-refused
read_expr_bind-returns-in_err-field0-clause-refused t c =
    found_refused (no_fields_kept (expr_bind_trees c.args.left) c.args.place c.args.reader.now c.take.new.self c.requires.steady) c.in_ok-place0.ensures.found c.from_residual-in_err-field0.result
    c.in_err-field0.field-0.0 c.from_residual-in_err-field0.ensures.1 c.in_err-field0.ensures.refused

pub read_expr_bind-find_field-requires-2 : goal.read_expr_bind-find_field-requires-2
read_expr_bind-find_field-requires-2 t c =
    let k0 = no_fields_kept (expr_bind_trees c.args.left) c.args.place c.args.reader.now c.take.new.self c.requires.steady in
    let k1 = and_found k0 c.in_ok-place0.ensures.found c.in_ok-field0.ensures.continues c.in_ok-field0.ensures.read in
    record { place = place_there _ _ _ _ k1 c.requires.place; steady = k1.continues.steady }

pub read_expr_bind-returns-in_err-value1-clause-refused : goal.read_expr_bind-returns-in_err-value1-clause-refused
read_expr_bind-returns-in_err-value1-clause-refused t c =
    let k0 = no_fields_kept (expr_bind_trees c.args.left) c.args.place c.args.reader.now c.take.new.self c.requires.steady in
    let k1 = and_found k0 c.in_ok-place0.ensures.found c.in_ok-field0.ensures.continues c.in_ok-field0.ensures.read in
    found_refused k1 c.in_ok-place1.ensures.found c.from_residual-in_err-value1.result
    c.in_err-value1.field-0.0 c.from_residual-in_err-value1.ensures.1 c.in_err-value1.ensures.refused

pub read_expr_bind-returns : goal.read_expr_bind-returns
read_expr_bind-returns t c =
    let k0 = no_fields_kept (expr_bind_trees c.args.left) c.args.place c.args.reader.now c.take.new.self c.requires.steady in
    let k1 = and_found k0 c.in_ok-place0.ensures.found c.in_ok-field0.ensures.continues c.in_ok-field0.ensures.read in
    let k2 = and_found k1 c.in_ok-place1.ensures.found c.in_ok-value1.ensures.continues c.in_ok-value1.ensures.read in
    record { continues = k2.continues; read = all_fields_kept k2 c.args.budget.now c.take.ensures (λ t. tuple (datum_and (map_datum (λ s. text (string_bytes s)) expr_datum t.0.entries) (datum_and (expr_datum t.1.value) no_data))) _ (rw (c.in_ok-field1.ensures.ok) refl); refused = tt }

pub read_expr_by_string-read_at-requires : goal.read_expr_by_string-read_at-requires
read_expr_by_string-read_at-requires t c =
    let l = c.loop-i in
    let found = c.in_ok-found.found in
    let h = keys_there (λ s. text (string_bytes s)) expr_datum text_tree (expr_tree c.args.left) found.keys found.values
    c.enter_map.new.reader l.reader c.enter_map.new.budget l.budget l._i l.pairs.items l.invariant c.in_ok-found.ensures.inside.0 in
    let s = l.invariant.0.steady in
    search (rules, h, s)

pub read_expr_by_string-read_expr-requires : goal.read_expr_by_string-read_expr-requires
read_expr_by_string-read_expr-requires t c =
    let l = c.loop-i in
    let found = c.in_ok-found.found in
    let there = values_there (λ s. text (string_bytes s)) expr_datum text_tree (expr_tree c.args.left) found.keys found.values
    c.enter_map.new.reader l.reader c.enter_map.new.budget l.budget l._i l.pairs.items l.invariant c.in_ok-found.ensures.inside.1 in
    let h = still_there l.reader c.read_at.new.reader found.values c.in_ok-key.ensures.continues there in
    let s = c.in_ok-key.ensures.continues.steady in
    search (rules, h, s)

pub read_expr_by_string-returns-in_err-found-clause-refused : goal.read_expr_by_string-returns-in_err-found-clause-refused
read_expr_by_string-returns-in_err-found-clause-refused t c =
    refused_on (map_tree text_tree (expr_tree c.args.left)) c.args.place c.args.reader.now c.from_residual.result c.in_err-found.field-0.0 c.from_residual.ensures.1
    (c.in_err-found.ensures.refused text_tree (expr_tree c.args.left))

pub read_expr_by_string-returns-in_err-key-clause-refused : goal.read_expr_by_string-returns-in_err-key-clause-refused
read_expr_by_string-returns-in_err-key-clause-refused t c =
    let l = c.loop-i in
    let found = c.in_ok-found.found in
    let lt : l._i < found.count = omega arith in
    refused_on (map_tree text_tree (expr_tree c.args.left)) c.args.place c.args.reader.now c.from_residual-in_err-key.result c.in_err-key.field-0.0 c.from_residual-in_err-key.ensures.1
    (key_not_kept (λ s. text (string_bytes s)) expr_datum text_tree (expr_tree c.args.left) found.keys found.values
    c.enter_map.new.reader l.reader c.enter_map.new.budget l.budget l._i l.pairs.items l.invariant
    c.args.reader.now c.args.place found.count c.in_ok-found.ensures.enters _ lt c.in_err-key.ensures.refused)

pub read_expr_by_string-returns-in_err-value-clause-refused : goal.read_expr_by_string-returns-in_err-value-clause-refused
read_expr_by_string-returns-in_err-value-clause-refused t c =
    let l = c.loop-i in
    let found = c.in_ok-found.found in
    let lt : l._i < found.count = omega arith in
    refused_on (map_tree text_tree (expr_tree c.args.left)) c.args.place c.args.reader.now c.from_residual-in_err-value.result c.in_err-value.field-0.0 c.from_residual-in_err-value.ensures.1
    (value_not_kept (λ s. text (string_bytes s)) expr_datum text_tree (expr_tree c.args.left) found.keys found.values
    c.enter_map.new.reader l.reader c.enter_map.new.budget l.budget l._i l.pairs.items l.invariant
    c.args.reader.now c.args.place found.count c.in_ok-found.ensures.enters _ c.read_at.new.reader _ _ c.in_ok-key.key lt c.in_ok-key.ensures.continues c.in_ok-key.ensures.read
    c.in_err-value.ensures.refused)

pub read_expr_by_string-returns-in_err-keep-clause-refused : goal.read_expr_by_string-returns-in_err-keep-clause-refused
read_expr_by_string-returns-in_err-keep-clause-refused t c =
    refused_on (map_tree text_tree (expr_tree c.args.left)) c.args.place c.args.reader.now c.from_residual-in_err-keep.result c.in_err-keep.field-0.0 c.from_residual-in_err-keep.ensures.1
    (no_memory (map_tree text_tree (expr_tree c.args.left)) c.args.place c.args.reader.now _ c.in_err-keep.ensures.refused)

pub read_expr_by_string-loop-i-init : goal.read_expr_by_string-loop-i-init
read_expr_by_string-loop-i-init t c =
    let found = c.in_ok-found.found in
    let empty : c.new-pairs.result.items ≡ [] = search rules in
    subst (λ ps. PairsKept (λ s. text (string_bytes s)) expr_datum text_tree (expr_tree c.args.left) found.keys found.values
    c.enter_map.new.reader c.enter_map.new.budget 0 ps c.enter_map.new.reader c.enter_map.new.budget) (sym empty)
    (no_pairs (λ s. text (string_bytes s)) expr_datum text_tree (expr_tree c.args.left) found.keys found.values
    c.enter_map.new.reader c.enter_map.new.budget c.in_ok-found.ensures.continues.steady)

pub read_expr_by_string-loop-i-preserved : goal.read_expr_by_string-loop-i-preserved
read_expr_by_string-loop-i-preserved t c =
    let l = c.loop-i in
    let found = c.in_ok-found.found in
    pairs_more (λ s. text (string_bytes s)) expr_datum text_tree (expr_tree c.args.left) found.keys found.values
    c.enter_map.new.reader l.reader c.enter_map.new.budget l.budget l._i l.pairs.items l.invariant tt c.read_at.new.reader _ _ _ _ c.keep.new.items.items c.in_ok-key.key c.in_ok-value.value
    c.take.ensures c.in_ok-key.ensures.continues c.in_ok-key.ensures.read c.in_ok-value.ensures.continues c.in_ok-value.ensures.read c.in_ok-keep.ensures.kept

pub read_expr_by_string-returns-clause-continues : goal.read_expr_by_string-returns-clause-continues
read_expr_by_string-returns-clause-continues t c =
    continues_on c.args.reader.now c.enter_map.new.reader c.loop-i.reader c.in_ok-found.ensures.continues c.loop-i.invariant.0

pub read_expr_by_string-returns-clause-read : goal.read_expr_by_string-returns-clause-read
read_expr_by_string-returns-clause-read t c =
    let l = c.loop-i in
    let found = c.in_ok-found.found in
    let all : l._i ≡ found.count = omega arith in
    map_kept (λ s. text (string_bytes s)) expr_datum (λ m. map_datum (λ s. text (string_bytes s)) expr_datum m.entries) text_tree (expr_tree c.args.left) c.args.place c.args.reader.now l.reader c.args.budget.now l.budget l.pairs.items
    c.in_ok-made.made.entries c.in_ok-made.made refl (c.in_ok-made.ensures.entries expr_datum)
    (pairs_kept (λ s. text (string_bytes s)) expr_datum text_tree (expr_tree c.args.left) found.keys found.values
    c.enter_map.new.reader l.reader c.enter_map.new.budget l.budget l._i l.pairs.items l.invariant
    c.args.reader.now c.args.place found.count c.args.budget.now c.in_ok-found.ensures.enters refl all c.enter_map.ensures.taken)
