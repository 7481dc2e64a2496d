use Rattle.std.proofs.Common.{◌∙◌, ◌-◌, ◌*◌, ◌%◌, ◌^◌, ap}
use Rattle.std.proofs.lemmas.Result.{on_ok_weaker}
use Rattle.bitcode_columns.specs.IntColumn.{halvings, narrow_text}
use Rattle.bitcode_int_columns.specs.Narrowing.{above}
use Rattle.bitcode_int_columns.proofs.AppendLemmas.{plain_appended, no_base}
use Rattle.bitcode_int_columns.proofs.pack_ints.append.append_plain.Goals as goal

pub returns-clause-written : goal.returns-clause-written
returns-clause-written g c =
    on_ok_weaker c.write_narrow.result
    (λ written. plain_appended (λ base e. above g.T.Int.width base (g.T.Int.number e) % 256 ^ c.args.narrow) (narrow_text c.args.narrow) c.args.entries.now _ _ _ _ _ _
    (no_base _ _ c.from_wide.ensures) (c.tag_for.ensures ∙ ap (λ w. 2 * (halvings w - halvings c.args.narrow)) c.width.ensures) c.in_ok-push.ensures.items written)
    c.write_narrow.ensures.written
