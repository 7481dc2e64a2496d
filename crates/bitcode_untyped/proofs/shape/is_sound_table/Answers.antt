-- Each entry refers soundly exactly where all do.
use Rattle.std.proofs.Common.{sym, ◌∙◌}
use Rattle.std.proofs.lemmas.List.Sums.{AllPass-from_list_all, list_all-from_AllPass}
use Rattle.bitcode_untyped.proofs.shape.is_sound_table.Goals as goal

pub returns-then-root-table : goal.returns-then-root-table
returns-then-root-table c =
    let e = c.all_refer_soundly.ensures in (
      λ h. record { root_in = c.if-root-table.true; entries = AllPass-from_list_all _ c.args.table.now (sym e ∙ h) },
      λ s. e ∙ list_all-from_AllPass _ c.args.table.now s.entries,
    )
