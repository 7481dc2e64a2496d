-- The elements of all arrays are read, and are cut into arrays.
use Rattle.std.proofs.Common.{◌*◌, ◌^◌, ◌<◌, ◌≤◌, inr, ◌∙◌, arith}
use Rattle.std.proofs.lemmas.Result.{err_from_is_err_and}
use Rattle.std.proofs.lemmas.Bool.{false≢true}
use Rattle.bitcode_parts.proofs.ArrayReadingLemmas.{reads_arrays, counts_arrays, judges_arrays, refuses_elements}
use Rattle.bitcode_parts.proofs.arrays.ArrayDecoderView.read.Goals as goal

pub returns-in_err-written-clause-refused : goal.returns-in_err-written-clause-refused
returns-in_err-written-clause-refused g c =
    let refused = err_from_is_err_and c.from_residual-in_err-written.result c.from_residual-in_err-written.ensures.1 in
    rw (refused.1, refused.2) (refuses_elements g.row.N g.D.HoldsData.shape c.args.k _ _ (rw c.in_ok-count.ensures.product at c.in_err-written.ensures.refused))

pub returns-in_err-written-clause-exact : goal.returns-in_err-written-clause-exact
returns-in_err-written-clause-exact g c =
    let refused = err_from_is_err_and c.from_residual-in_err-written.result c.from_residual-in_err-written.ensures.1 in
    let over : 2 ^ 64 ≤ c.args.k * g.row.N → ⊥ = λ many. false≢true (c.in_ok-count.ensures.refused.1 many) in
    let fits : c.args.k * g.row.N < 2 ^ 64 = omega arith in
    rw (refused.1, refused.2) (inr (fits, rw c.in_ok-count.ensures.product at c.in_err-written.ensures.exact))

pub returns-clause-read : goal.returns-clause-read
returns-clause-read g c =
    let over : 2 ^ 64 ≤ c.args.k * g.row.N → ⊥ = λ many. false≢true (c.in_ok-count.ensures.refused.1 many) in
    reads_arrays g.row.N g.D.HoldsData.shape c.args.k _ _ _ (omega arith) (rw c.in_ok-count.ensures.product at c.in_ok-written.ensures.read)

pub returns-clause-counted : goal.returns-clause-counted
returns-clause-counted g c =
    counts_arrays g.row.N g.D.HoldsData.shape c.args.k _ _ (c.in_ok-written.ensures.read.size ∙ c.in_ok-count.ensures.product) c.in_ok-written.ensures.counted

pub returns-clause-judged : goal.returns-clause-judged
returns-clause-judged g c = λ strict.
    judges_arrays g.row.N g.D.HoldsData.shape c.args.k _ _ _ (rw c.in_ok-count.ensures.product at c.in_ok-written.ensures.read) _ (c.in_ok-written.ensures.judged strict)
