-- One field or element after another. Written by `scripts/second_format`.
use Rattle.std.proofs.Common.{rules, arith, ◌≡◌, ℕ, zero, suc, false, map, refl, ap, sym, ◌∙◌}
use Rattle.bitcode_serde_types.specs.Written.{Datum, list, data_of, column_free, choice_tree}
use Rattle.bitcode_serde_types.proofs.StepsRead.{continues_on, no_fields_kept, refused_on, too_deep, and_field, field_refused, found_refused, all_fields_kept, no_items, items_there, and_item, item_stuck, and_list, variant_refused, variant_kept, unit_variant_kept}
use Rattle.bitcode_recursive_types.specs.DirectoryShape.{directory_tree, directory_trees, directory_step, directory_datum, entry_tree, entry_trees, entry_step, entry_datum}
use Rattle.bitcode_recursive_types.specs.declared.directory.Entry.TheFolds.{fold-roll-Directory}
use Rattle.bitcode_recursive_types.specs.declared.directory.Entry.TheFolds.{fold-roll-Entry}
use Rattle.bitcode_recursive_types.specs.declared.directory.Entry.TheVariants as entry'
use Rattle.bitcode_recursive_types.specs.declared.directory.Entry.TheOpen.{Entry-F}
use Rattle.bitcode_recursive_types.proofs.directory.+directory.Goals as goal

mutual
  directory_columns : (n : ℕ) → false ≡ column_free (directory_tree n)
  directory_columns zero = refl
  directory_columns (suc n) = refl

  entry_columns : (n : ℕ) → false ≡ column_free (entry_tree n)
  entry_columns zero = refl
  entry_columns (suc n) = refl

pub read_directory-returns-in_err-below-clause-refused : goal.read_directory-returns-in_err-below-clause-refused
read_directory-returns-in_err-below-clause-refused t c =
    too_deep directory_tree refl _ c.args.place c.from_residual.result c.in_err-below.field-0.0 c.from_residual.ensures.1 c.in_err-below.ensures.refused c.args.reader.now

pub read_directory-returns-in_err-name-clause-refused : goal.read_directory-returns-in_err-name-clause-refused
read_directory-returns-in_err-name-clause-refused t c =
    rw c.in_ok-below.ensures.followed (field_refused (no_fields_kept (directory_trees c.in_ok-below.below) c.args.place c.args.reader.now c.take.new.self c.requires.steady) c.from_residual-in_err-name.result
    c.in_err-name.field-0.0 c.from_residual-in_err-name.ensures.1 c.in_err-name.ensures.refused)

pub read_directory-returns-in_err-found1-clause-refused : goal.read_directory-returns-in_err-found1-clause-refused
read_directory-returns-in_err-found1-clause-refused t c =
    let k0 = no_fields_kept (directory_trees c.in_ok-below.below) c.args.place c.args.reader.now c.take.new.self c.requires.steady in
    let k1 = and_field k0 c.in_ok-name.ensures.continues c.in_ok-name.ensures.read in
    rw c.in_ok-below.ensures.followed (found_refused k1 c.in_ok-place1.ensures.found c.from_residual-in_err-found1.result
    c.in_err-found1.field-0.0 c.from_residual-in_err-found1.ensures.1 (c.in_err-found1.ensures.refused (entry_tree c.in_ok-below.below) (entry_columns c.in_ok-below.below)))

pub read_directory-read_entry-requires : goal.read_directory-read_entry-requires
read_directory-read_entry-requires t c =
    search (rules, items_there c.loop-i.invariant c.in_ok-found1.ensures.inside, c.loop-i.invariant.continues.steady)

pub read_directory-returns-in_err-item-clause-refused : goal.read_directory-returns-in_err-item-clause-refused
read_directory-returns-in_err-item-clause-refused t c =
    let k0 = no_fields_kept (directory_trees c.in_ok-below.below) c.args.place c.args.reader.now c.take.new.self c.requires.steady in
    let k1 = and_field k0 c.in_ok-name.ensures.continues c.in_ok-name.ensures.read in
    rw c.in_ok-below.ensures.followed (item_stuck k1 c.in_ok-place1.ensures.found c.loop-i.invariant c.in_ok-found1.ensures.enters (omega arith)
    c.from_residual-in_err-item.result c.in_err-item.field-0.0 c.from_residual-in_err-item.ensures.1 c.in_err-item.ensures.refused)

pub read_directory-loop-i-init : goal.read_directory-loop-i-init
read_directory-loop-i-init t c = no_items entry_datum (entry_tree c.in_ok-below.below) _ _ _ _ c.in_ok-found1.ensures.continues.steady (search rules)

pub read_directory-loop-i-preserved : goal.read_directory-loop-i-preserved
read_directory-loop-i-preserved t c = and_item c.loop-i.invariant c.in_ok-item.ensures.continues c.in_ok-item.ensures.read _ c.in_ok-keep.ensures.kept

pub read_directory-returns : goal.read_directory-returns
read_directory-returns t c =
    let k0 = no_fields_kept (directory_trees c.in_ok-below.below) c.args.place c.args.reader.now c.take.new.self c.requires.steady in
    let k1 = and_field k0 c.in_ok-name.ensures.continues c.in_ok-name.ensures.read in
    let k2 = and_list k1 c.in_ok-place1.ensures.found c.loop-i.invariant c.in_ok-found1.ensures.enters c.in_ok-found1.ensures.continues (omega arith)
    (entry_columns c.in_ok-below.below) c.enter_list.ensures.taken (λ v. list (data_of (map entry_datum v.items))) c.loop-i.entries refl in
    record { continues = k2.continues; read = rw c.in_ok-below.ensures.followed (all_fields_kept k2 c.args.budget.now c.take.ensures directory_datum _ (fold-roll-Directory Datum Datum entry_step directory_step (record { name = c.in_ok-name.name; entries = c.loop-i.entries }))); refused = tt }

pub read_entry-returns-in_err-below-clause-refused : goal.read_entry-returns-in_err-below-clause-refused
read_entry-returns-in_err-below-clause-refused t c =
    too_deep entry_tree refl _ c.args.place c.from_residual.result c.in_err-below.field-0.0 c.from_residual.ensures.1 c.in_err-below.ensures.refused c.args.reader.now

pub read_entry-returns-in_err-found-clause-refused : goal.read_entry-returns-in_err-found-clause-refused
read_entry-returns-in_err-found-clause-refused t c =
    let ss = entry_trees c.in_ok-below.below in
    rw c.in_ok-below.ensures.followed
    (refused_on (choice_tree ss) c.args.place c.args.reader.now c.from_residual-in_err-found.result c.in_err-found.field-0.0 c.from_residual-in_err-found.ensures.1 (c.in_err-found.ensures.refused ss refl))

pub read_entry-returns-in_err-held-in-0-clause-refused : goal.read_entry-returns-in_err-held-in-0-clause-refused
read_entry-returns-in_err-held-in-0-clause-refused t c =
    rw c.in_ok-below.ensures.followed
    (variant_refused (entry_trees c.in_ok-below.below) 0 c.in_ok-found.ensures.enters (omega (arith, c.in_ok-found.ensures.known))
    c.from_residual-in_err-held-in-0.result c.in_err-held-in-0.field-0.0 c.from_residual-in_err-held-in-0.ensures.1 c.in_err-held-in-0.ensures.refused)

pub read_entry-returns-in_ok-held-in-0-clause-continues : goal.read_entry-returns-in_ok-held-in-0-clause-continues
read_entry-returns-in_ok-held-in-0-clause-continues t c = continues_on _ _ _ c.in_ok-found.ensures.continues c.in_ok-held-in-0.ensures.continues

pub read_entry-returns-in_ok-held-in-0-clause-read : goal.read_entry-returns-in_ok-held-in-0-clause-read
read_entry-returns-in_ok-held-in-0-clause-read t c =
    rw c.in_ok-below.ensures.followed
    (variant_kept (entry_trees c.in_ok-below.below) 0 c.in_ok-found.ensures.enters (omega (arith, c.in_ok-found.ensures.known))
    c.args.budget.now c.enter_variant.ensures.taken c.in_ok-held-in-0.ensures.read entry_datum _ (ap entry_datum (sym (entry'.rolls-File c.in_ok-held-in-0.held)) ∙ fold-roll-Entry Datum Datum entry_step directory_step (Entry-F.File c.in_ok-held-in-0.held)))

pub read_entry-returns-in_err-held-in-1-clause-refused : goal.read_entry-returns-in_err-held-in-1-clause-refused
read_entry-returns-in_err-held-in-1-clause-refused t c =
    rw c.in_ok-below.ensures.followed
    (variant_refused (entry_trees c.in_ok-below.below) 1 c.in_ok-found.ensures.enters (omega (arith, c.in_ok-found.ensures.known))
    c.from_residual-in_err-held-in-1.result c.in_err-held-in-1.field-0.0 c.from_residual-in_err-held-in-1.ensures.1 c.in_err-held-in-1.ensures.refused)

pub read_entry-returns-in_ok-held-in-1-clause-continues : goal.read_entry-returns-in_ok-held-in-1-clause-continues
read_entry-returns-in_ok-held-in-1-clause-continues t c = continues_on _ _ _ c.in_ok-found.ensures.continues c.in_ok-held-in-1.ensures.continues

pub read_entry-returns-in_ok-held-in-1-clause-read : goal.read_entry-returns-in_ok-held-in-1-clause-read
read_entry-returns-in_ok-held-in-1-clause-read t c =
    rw c.in_ok-below.ensures.followed
    (variant_kept (entry_trees c.in_ok-below.below) 1 c.in_ok-found.ensures.enters (omega (arith, c.in_ok-found.ensures.known))
    c.args.budget.now c.enter_variant.ensures.taken c.in_ok-held-in-1.ensures.read entry_datum _ (ap entry_datum (sym (entry'.rolls-Folder c.in_ok-held-in-1.held)) ∙ fold-roll-Entry Datum Datum entry_step directory_step (Entry-F.Folder c.in_ok-held-in-1.held)))

pub read_entry-returns-in-2-clause-read : goal.read_entry-returns-in-2-clause-read
read_entry-returns-in-2-clause-read t c =
    rw c.in_ok-below.ensures.followed
    (unit_variant_kept (entry_trees c.in_ok-below.below) 2 c.in_ok-found.ensures.enters (omega (arith, c.in_ok-found.ensures.known)) refl c.args.budget.now c.enter_variant.ensures.taken
    c.take.ensures entry_datum _ (ap entry_datum (sym entry'.rolls-Nothing) ∙ fold-roll-Entry Datum Datum entry_step directory_step Entry-F.Nothing))

pub read_entry-returns-in_err-held-in_default-clause-refused : goal.read_entry-returns-in_err-held-in_default-clause-refused
read_entry-returns-in_err-held-in_default-clause-refused t c =
    rw c.in_ok-below.ensures.followed
    (variant_refused (entry_trees c.in_ok-below.below) 3 c.in_ok-found.ensures.enters (omega (arith, c.in_ok-found.ensures.known))
    c.from_residual-in_err-held-in_default.result c.in_err-held-in_default.field-0.0 c.from_residual-in_err-held-in_default.ensures.1 c.in_err-held-in_default.ensures.refused)

pub read_entry-returns-in_ok-held-in_default-clause-continues : goal.read_entry-returns-in_ok-held-in_default-clause-continues
read_entry-returns-in_ok-held-in_default-clause-continues t c = continues_on _ _ _ c.in_ok-found.ensures.continues c.in_ok-held-in_default.ensures.continues

pub read_entry-returns-in_ok-held-in_default-clause-read : goal.read_entry-returns-in_ok-held-in_default-clause-read
read_entry-returns-in_ok-held-in_default-clause-read t c =
    rw c.in_ok-below.ensures.followed
    (let k = variant_kept (entry_trees c.in_ok-below.below) 3 c.in_ok-found.ensures.enters (omega (arith, c.in_ok-found.ensures.known))
    c.args.budget.now c.enter_variant.ensures.taken c.in_ok-held-in_default.ensures.read entry_datum (entry'.Link c.in_ok-held-in_default.held.0 c.in_ok-held-in_default.held.1) (ap entry_datum (sym (entry'.rolls-Link c.in_ok-held-in_default.held.0 c.in_ok-held-in_default.held.1)) ∙ fold-roll-Entry Datum Datum entry_step directory_step (Entry-F.Link c.in_ok-held-in_default.held.0 c.in_ok-held-in_default.held.1)) in
    search (rules, k))
