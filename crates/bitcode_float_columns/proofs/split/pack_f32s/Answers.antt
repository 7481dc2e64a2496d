-- The low bytes, and then the top bytes.
use Rattle.std.proofs.Common.{ap, ◌∙◌}
use Rattle.bitcode_float_columns.proofs.SplitLemmas.{split_joined}
use Rattle.bitcode_float_columns.proofs.split.pack_f32s.Goals as goal

pub returns-clause-written : goal.returns-clause-written
returns-clause-written c =
    let kept = ap (λ v. v.items) c.replace-held.ensures.value ∙ c.in_ok-reserve.ensures.items in
    split_joined c.args.floats.now c.args.out.now.items c.replace-held.result.items c.push_lows-lows.result.items c.push_tops.result.items
    kept c.push_lows-lows.ensures.written c.push_tops.ensures
