-- The columns of the first group are written, and then those of the second.
use Rattle.std.proofs.Common.{◌++◌, ◌∙◌, ap, sym, append_assoc}
use Rattle.std.proofs.lemmas.Result.{on_ok_weaker}
use Rattle.bitcode_coder.specs.Spelling.{columns_bytes}
use Rattle.bitcode_enums.specs.ByNumber.{all_columns}
use Rattle.bitcode_enums.proofs.ColumnLemmas.{bytes_append}
use Rattle.bitcode_enums.proofs.two_groups.TwoGroupsVariantColumns.collect_all.Goals as goal

pub returns-clause-written : goal.returns-clause-written
returns-clause-written g c =
    let first = g.F.HoldsVariantColumns.columns.lists c.args.self.now.first in
    let second = g.S.HoldsVariantColumns.columns.lists c.args.self.now.second in
    on_ok_weaker c.collect_all-2.result
    (λ written.
    written ∙ ap (λ bs. bs ++ columns_bytes (all_columns second)) c.in_ok-collect_all.ensures.written
    ∙ append_assoc c.args.out.now.items (columns_bytes (all_columns first)) (columns_bytes (all_columns second))
    ∙ ap (λ bs. c.args.out.now.items ++ bs) (sym (bytes_append first second)))
    c.collect_all-2.ensures.written
