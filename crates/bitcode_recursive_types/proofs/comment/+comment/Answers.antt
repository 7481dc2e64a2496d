-- One field or element after another. Written by `scripts/second_format`.
use Rattle.std.proofs.Common.{rules, arith, ◌≡◌, ℕ, zero, suc, false, map, refl}
use Rattle.bitcode_serde_types.specs.Written.{Datum, list, data_of, column_free}
use Rattle.bitcode_serde_types.proofs.StepsRead.{no_fields_kept, too_deep, and_field, field_refused, found_refused, all_fields_kept, no_items, items_there, and_item, item_stuck, and_list}
use Rattle.bitcode_recursive_types.specs.CommentShape.{comment_tree, comment_trees, comment_step, comment_datum}
use Rattle.bitcode_recursive_types.specs.declared.comment.Comment.TheFolds.{fold-roll-Comment}
use Rattle.bitcode_recursive_types.proofs.comment.+comment.Goals as goal

comment_columns : (n : ℕ) → false ≡ column_free (comment_tree n)
comment_columns zero = refl
comment_columns (suc n) = refl

pub returns-in_err-below-clause-refused : goal.returns-in_err-below-clause-refused
returns-in_err-below-clause-refused t c =
    too_deep comment_tree refl _ c.args.place c.from_residual.result c.in_err-below.field-0.0 c.from_residual.ensures.1 c.in_err-below.ensures.refused c.args.reader.now

pub returns-in_err-text-clause-refused : goal.returns-in_err-text-clause-refused
returns-in_err-text-clause-refused t c =
    rw c.in_ok-below.ensures.followed (field_refused (no_fields_kept (comment_trees c.in_ok-below.below) c.args.place c.args.reader.now c.take.new.self c.requires.steady) c.from_residual-in_err-text.result
    c.in_err-text.field-0.0 c.from_residual-in_err-text.ensures.1 c.in_err-text.ensures.refused)

pub returns-in_err-found1-clause-refused : goal.returns-in_err-found1-clause-refused
returns-in_err-found1-clause-refused t c =
    let k0 = no_fields_kept (comment_trees c.in_ok-below.below) c.args.place c.args.reader.now c.take.new.self c.requires.steady in
    let k1 = and_field k0 c.in_ok-text.ensures.continues c.in_ok-text.ensures.read in
    rw c.in_ok-below.ensures.followed (found_refused k1 c.in_ok-place1.ensures.found c.from_residual-in_err-found1.result
    c.in_err-found1.field-0.0 c.from_residual-in_err-found1.ensures.1 (c.in_err-found1.ensures.refused (comment_tree c.in_ok-below.below) (comment_columns c.in_ok-below.below)))

pub read_comment-requires : goal.read_comment-requires
read_comment-requires t c =
    search (rules, items_there c.loop-i.invariant c.in_ok-found1.ensures.inside, c.loop-i.invariant.continues.steady)

pub returns-in_err-item-clause-refused : goal.returns-in_err-item-clause-refused
returns-in_err-item-clause-refused t c =
    let k0 = no_fields_kept (comment_trees c.in_ok-below.below) c.args.place c.args.reader.now c.take.new.self c.requires.steady in
    let k1 = and_field k0 c.in_ok-text.ensures.continues c.in_ok-text.ensures.read in
    rw c.in_ok-below.ensures.followed (item_stuck k1 c.in_ok-place1.ensures.found c.loop-i.invariant c.in_ok-found1.ensures.enters (omega arith)
    c.from_residual-in_err-item.result c.in_err-item.field-0.0 c.from_residual-in_err-item.ensures.1 c.in_err-item.ensures.refused)

pub loop-i-init : goal.loop-i-init
loop-i-init t c = no_items comment_datum (comment_tree c.in_ok-below.below) _ _ _ _ c.in_ok-found1.ensures.continues.steady (search rules)

pub loop-i-preserved : goal.loop-i-preserved
loop-i-preserved t c = and_item c.loop-i.invariant c.in_ok-item.ensures.continues c.in_ok-item.ensures.read _ c.in_ok-keep.ensures.kept

pub returns : goal.returns
returns t c =
    let k0 = no_fields_kept (comment_trees c.in_ok-below.below) c.args.place c.args.reader.now c.take.new.self c.requires.steady in
    let k1 = and_field k0 c.in_ok-text.ensures.continues c.in_ok-text.ensures.read in
    let k2 = and_list k1 c.in_ok-place1.ensures.found c.loop-i.invariant c.in_ok-found1.ensures.enters c.in_ok-found1.ensures.continues (omega arith)
    (comment_columns c.in_ok-below.below) c.enter_list.ensures.taken (λ v. list (data_of (map comment_datum v.items))) c.loop-i.replies refl in
    record { continues = k2.continues; read = rw c.in_ok-below.ensures.followed (all_fields_kept k2 c.args.budget.now c.take.ensures comment_datum _ (fold-roll-Comment Datum comment_step (record { text = c.in_ok-text.text; replies = c.loop-i.replies }))); refused = tt }
