-- The fields or the variant, or one reference too many. Written by `scripts/second_format`.
use Rattle.std.proofs.Common.{refl, ap, sym, ◌∙◌}
use Rattle.bitcode_serde_types.specs.Written.{Datum}
use Rattle.bitcode_serde_types.proofs.StepsRead.{too_deep_written}
use Rattle.bitcode_recursive_types.specs.DirectoryShape.{directory_tree, directory_step, entry_tree, entry_trees, entry_step, entry_datum}
use Rattle.bitcode_recursive_types.specs.declared.directory.Entry.TheFolds.{fold_out-Directory}
use Rattle.bitcode_recursive_types.specs.declared.directory.Entry.TheFolds.{fold-roll-Entry}
use Rattle.bitcode_recursive_types.specs.declared.directory.Entry.TheVariants as entry'
use Rattle.bitcode_recursive_types.specs.declared.directory.Entry.TheOpen.{Entry-F}
use Rattle.bitcode_recursive_types.proofs.directory.+directory_write.Goals as goal

pub DirectorySerializeAs::write-returns-in_err-below : goal.DirectorySerializeAs::write-returns-in_err-below
DirectorySerializeAs::write-returns-in_err-below t c =
    too_deep_written directory_tree refl _ c.args.place c.from_residual.result c.in_err-below.field-0.0 c.from_residual.ensures.1 c.in_err-below.ensures.refused c.args.writer.now _

pub DirectorySerializeAs::write-returns : goal.DirectorySerializeAs::write-returns
DirectorySerializeAs::write-returns t c = rw (c.in_ok-below.ensures.followed, fold_out-Directory Datum Datum entry_step directory_step c.args.self.now) c.write_tuple.ensures

pub EntrySerializeAs::write-returns-in_err-below : goal.EntrySerializeAs::write-returns-in_err-below
EntrySerializeAs::write-returns-in_err-below t c =
    too_deep_written entry_tree refl _ c.args.place c.from_residual.result c.in_err-below.field-0.0 c.from_residual.ensures.1 c.in_err-below.ensures.refused c.args.writer.now _

pub EntrySerializeAs::write-returns-in-File : goal.EntrySerializeAs::write-returns-in-File
EntrySerializeAs::write-returns-in-File t c =
    rw (c.in_ok-below.ensures.followed, c.in-File.is, ap entry_datum (sym (entry'.rolls-File c.in-File.x0)) ∙ fold-roll-Entry Datum Datum entry_step directory_step (Entry-F.File c.in-File.x0))
    (c.write_variant.ensures (entry_trees c.in_ok-below.below) refl)

pub EntrySerializeAs::write-returns-in-Folder : goal.EntrySerializeAs::write-returns-in-Folder
EntrySerializeAs::write-returns-in-Folder t c =
    rw (c.in_ok-below.ensures.followed, c.in-Folder.is, ap entry_datum (sym (entry'.rolls-Folder c.in-Folder.x0)) ∙ fold-roll-Entry Datum Datum entry_step directory_step (Entry-F.Folder c.in-Folder.x0))
    (c.write_variant-in-Folder.ensures (entry_trees c.in_ok-below.below) refl)

pub EntrySerializeAs::write-returns-in-Nothing : goal.EntrySerializeAs::write-returns-in-Nothing
EntrySerializeAs::write-returns-in-Nothing t c =
    rw (c.in_ok-below.ensures.followed, c.in-Nothing.is, ap entry_datum (sym entry'.rolls-Nothing) ∙ fold-roll-Entry Datum Datum entry_step directory_step Entry-F.Nothing)
    (c.write_variant-in-Nothing.ensures (entry_trees c.in_ok-below.below) refl)

pub EntrySerializeAs::write-returns-in-Link : goal.EntrySerializeAs::write-returns-in-Link
EntrySerializeAs::write-returns-in-Link t c =
    rw (c.in_ok-below.ensures.followed, c.in-Link.is, ap entry_datum (sym (entry'.rolls-Link c.in-Link.target c.in-Link.offset)) ∙ fold-roll-Entry Datum Datum entry_step directory_step (Entry-F.Link c.in-Link.target c.in-Link.offset))
    (c.write_variant-in-Link.ensures (entry_trees c.in_ok-below.below) refl)
