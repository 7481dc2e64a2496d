-- The lengths are compared with the limit once the texts are read.
use Rattle.std.proofs.lemmas.Result.{err_from_is_err_and}
use Rattle.bitcode_coder.specs.Length.{short_left, large_left, lengths_left}
use Rattle.bitcode_coder.specs.TextParts.{in_texts, in_lengths}
use Rattle.bitcode_schema.proofs.SequenceLemmas.{reads_texts, texts_over}
use Rattle.bitcode_schema.proofs.leaves.read_limited.Goals as goal

pub returns-in_err-populate-clause-exact : goal.returns-in_err-populate-clause-exact
returns-in_err-populate-clause-exact c =
    let refused = err_from_is_err_and c.from_residual.result c.from_residual.ensures.1 in
    rw (refused.1, refused.2) (in_texts (in_lengths c.in_err-populate.ensures.refused))

pub returns-in_err-written-clause-exact : goal.returns-in_err-written-clause-exact
returns-in_err-written-clause-exact c =
    let refused = err_from_is_err_and c.from_residual-in_err-written.result c.from_residual-in_err-written.ensures.1 in
    rw (refused.1, refused.2) (in_texts c.in_err-written.ensures.exact)

pub returns-then-exceed-clause-exact : goal.returns-then-exceed-clause-exact
unfolding short_left large_left lengths_left
returns-then-exceed-clause-exact c =
    rw c.err.ensures (texts_over c.args.k c.args.strict c.args.limit c.in_ok-written.ensures.read c.in_ok-populate.ensures.parts
    (rw c.if-exceed.true at c.exceed.ensures))

pub returns-clause-read : goal.returns-clause-read
unfolding short_left large_left lengths_left
returns-clause-read c =
    reads_texts c.args.k c.args.strict c.args.limit c.in_ok-written.ensures.read c.in_ok-populate.ensures.parts (rw c.if-exceed.false at c.exceed.ensures)
