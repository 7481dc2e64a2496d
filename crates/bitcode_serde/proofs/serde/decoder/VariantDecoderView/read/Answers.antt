-- What was read is all that is left.
use Rattle.std.proofs.Common.{subst, All, sym, ◌<◌}
use Rattle.std.proofs.lemmas.Result.{err_from_is_err_and}
use Rattle.bitcode_memory.specs.Fast.{cow_rest}
use Rattle.bitcode_coder.specs.Faults.{in_column}
use Rattle.bitcode_serde.specs.Indices.{indices_left, index_count}
use Rattle.bitcode_serde.proofs.IndexLemmas.{indices_read, indices_judged, indices_counted}
use Rattle.bitcode_serde.proofs.serde.decoder.VariantDecoderView.read.Goals as goal

pub returns-in_err-written-clause-exact : goal.returns-in_err-written-clause-exact
returns-in_err-written-clause-exact c =
    let refused = err_from_is_err_and c.from_residual.result c.from_residual.ensures.1 in
    rw (refused.1, refused.2) (in_column (record { named = c.in_err-written.ensures.refused; free = c.in_err-written.ensures.raw }))

pub returns-clause-read : goal.returns-clause-read
unfolding indices_left
returns-clause-read c =
    indices_read c.args.k c.args.input.now.now (cow_rest c.read_bytes.new.out) c.read_bytes.new.input.now c.in_ok-written.ensures.read
    (subst (All (λ n. n < 256)) c.as_slice-bytes.ensures c.known_bytes.ensures)

pub returns-clause-judged : goal.returns-clause-judged
unfolding indices_left
returns-clause-judged c strict =
    indices_judged c.in_ok-written.written c.args.k c.args.input.now.now (cow_rest c.read_bytes.new.out) c.read_bytes.new.input.now c.in_ok-written.ensures.read
    (subst (All (λ n. n < 256)) c.as_slice-bytes.ensures c.known_bytes.ensures) (c.in_ok-written.ensures.judged strict)

pub returns-clause-counts : goal.returns-clause-counts
unfolding indices_left index_count
returns-clause-counts c = λ index below. sym (indices_counted (cow_rest c.read_bytes.new.out) index)
