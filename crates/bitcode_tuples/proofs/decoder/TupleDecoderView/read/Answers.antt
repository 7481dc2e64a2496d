-- The first fields are read, and then the second ones from what is left.
use Rattle.std.proofs.Common.{inl, inr}
use Rattle.std.proofs.lemmas.Result.{err_from_is_err_and}
use Rattle.bitcode_columns.proofs.ReadingLemmas.{OnErr-always}
use Rattle.bitcode_coder.proofs.LengthPartLemmas.{ends_behind_read}
use Rattle.bitcode_tuples.proofs.ReadingLemmas.{reads_pairs, counts_pairs, judges_pairs, refuses_first, refuses_second}
use Rattle.bitcode_tuples.proofs.decoder.TupleDecoderView.read.Goals as goal

pub returns-in_err-first-clause-refused : goal.returns-in_err-first-clause-refused
returns-in_err-first-clause-refused g c =
    let refused = err_from_is_err_and c.from_residual.result c.from_residual.ensures.1 in
    rw (refused.1, refused.2) (refuses_first g.A.HoldsData.shape g.B.HoldsData.shape c.args.k _ _ c.in_err-first.ensures.refused)

pub returns-in_err-first-clause-exact : goal.returns-in_err-first-clause-exact
returns-in_err-first-clause-exact g c =
    let refused = err_from_is_err_and c.from_residual.result c.from_residual.ensures.1 in
    rw (refused.1, refused.2) (inl c.in_err-first.ensures.exact)

pub returns-in_err-second-clause-refused : goal.returns-in_err-second-clause-refused
returns-in_err-second-clause-refused g c =
    let refused = err_from_is_err_and c.from_residual-in_err-second.result c.from_residual-in_err-second.ensures.1 in
    rw (refused.1, refused.2)
    (refuses_second g.A.HoldsData.shape g.B.HoldsData.shape c.args.k _ _ _ _ c.in_ok-first.ensures.read c.in_err-second.ensures.refused)

pub returns-in_err-second-clause-exact : goal.returns-in_err-second-clause-exact
returns-in_err-second-clause-exact g c =
    let refused = err_from_is_err_and c.from_residual-in_err-second.result c.from_residual-in_err-second.ensures.1 in
    rw (refused.1, refused.2) (inr (record { entries = _; rest = _; read = c.in_ok-first.ensures.read; fault = c.in_err-second.ensures.exact }))

pub returns-in_err-second-clause-rest : goal.returns-in_err-second-clause-rest
returns-in_err-second-clause-rest g c =
    OnErr-always c.from_residual-in_err-second.result (ends_behind_read _ c.in_ok-first.ensures.read c.in_err-second.ensures.rest)

pub returns-clause-read : goal.returns-clause-read
returns-clause-read g c =
    reads_pairs g.A.HoldsData.shape g.B.HoldsData.shape c.args.k _ _ c.in_ok-first.ensures.read c.in_ok-second.ensures.read

pub returns-clause-counted : goal.returns-clause-counted
returns-clause-counted g c =
    counts_pairs g.A.HoldsData.shape g.B.HoldsData.shape c.args.k _ _ c.in_ok-first.ensures.read c.in_ok-second.ensures.read _ _
    c.in_ok-first.ensures.counted c.in_ok-second.ensures.counted

pub returns-clause-judged : goal.returns-clause-judged
returns-clause-judged g c strict =
    rw c.both.ensures
    (judges_pairs g.A.HoldsData.shape g.B.HoldsData.shape c.args.k _ _ _ _ c.in_ok-first.ensures.read c.in_ok-second.ensures.read
    (c.in_ok-first.ensures.judged strict) (c.in_ok-second.ensures.judged strict))
