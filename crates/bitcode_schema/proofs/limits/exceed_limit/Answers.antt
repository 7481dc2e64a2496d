-- Below 255, each short byte is its length where none exceeds the limit.
use Rattle.bitcode_coder.specs.Length.{short_left, large_left, lengths_left}
use Rattle.bitcode_schema.proofs.LimitLemmas.{judged_as, cap_from_both, both_from_cap, cap_long, long_cap}
use Rattle.bitcode_schema.proofs.limits.exceed_limit.Goals as goal

pub returns-then-limit-lt-ESCAPE : goal.returns-then-limit-lt-ESCAPE
unfolding short_left large_left lengths_left
returns-then-limit-lt-ESCAPE c =
    let short = short_left c.args.lengths.now in
    let large = large_left c.args.lengths.now in
    judged_as c.exceed_short.result (cap_from_both c.args.limit short large c.if-limit-lt-ESCAPE.true) (both_from_cap c.args.limit short large c.if-limit-lt-ESCAPE.true)
    c.exceed_short.ensures

pub returns : goal.returns
returns c =
    let short = short_left c.args.lengths.now in
    let lengths = lengths_left c.args.lengths.now in
    judged_as c.is_any_over.result (cap_long c.args.limit short lengths c.if-limit-lt-ESCAPE.false) (long_cap c.args.limit short lengths c.if-limit-lt-ESCAPE.false)
    c.is_any_over.ensures
