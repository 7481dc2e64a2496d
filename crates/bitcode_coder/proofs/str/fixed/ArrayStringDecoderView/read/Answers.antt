-- The texts are read as those without a limit, and then the limit is asked.
use Rattle.std.proofs.lemmas.Result.{err_from_is_err_and}
use Rattle.bitcode_memory.specs.Fast.{slice_rest}
use Rattle.bitcode_coder.specs.Cutting.{cut}
use Rattle.bitcode_coder.specs.Length.{short_left, large_left, lengths_left}
use Rattle.bitcode_coder.specs.TextParts.{in_texts}
use Rattle.bitcode_coder.proofs.LimitedTextLemmas.{limited_read, limited_refusal, limit_named, texts_within}
use Rattle.bitcode_coder.proofs.str.fixed.ArrayStringDecoderView.read.Goals as goal

pub returns-in_err-written-clause-refused : goal.returns-in_err-written-clause-refused
returns-in_err-written-clause-refused g c =
    let refused = err_from_is_err_and c.from_residual.result c.from_residual.ensures.1 in
    rw (refused.1, refused.2) (limited_refusal g.row.N _ c.args.k c.args.input.now.now (in_texts c.in_err-written.ensures.refused))

pub returns-in_err-written-clause-exact : goal.returns-in_err-written-clause-exact
returns-in_err-written-clause-exact g c =
    let refused = err_from_is_err_and c.from_residual.result c.from_residual.ensures.1 in
    rw (refused.1, refused.2) (in_texts c.in_err-written.ensures.refused)

pub returns-then-any_greater_than-clause-refused : goal.returns-then-any_greater_than-clause-refused
unfolding short_left large_left lengths_left
returns-then-any_greater_than-clause-refused g c =
    let read = c.in_ok-written.ensures in
    rw c.err.ensures (limited_refusal g.row.N _ c.args.k c.args.input.now.now (limit_named read.read read.parts.1 c.if-any_greater_than.ensures))

pub returns-then-any_greater_than-clause-exact : goal.returns-then-any_greater_than-clause-exact
unfolding short_left large_left lengths_left
returns-then-any_greater_than-clause-exact g c =
    let read = c.in_ok-written.ensures in
    rw c.err.ensures (limit_named read.read read.parts.1 c.if-any_greater_than.ensures)

pub invariant_of-self : goal.invariant_of-self
unfolding short_left large_left lengths_left
invariant_of-self g c =
    let column = c.read_column.new.self in
    let read = c.in_ok-written.ensures in
    record {
      within = texts_within (cut (lengths_left column.lengths) (slice_rest column.bytes))
          (limited_read g.row.N _ _ _ _ _ read.parts.1 c.if-any_greater_than.ensures read.read);
    }

pub returns-clause-read : goal.returns-clause-read
unfolding short_left large_left lengths_left
returns-clause-read g c =
    let read = c.in_ok-written.ensures in
    limited_read g.row.N _ _ _ _ _ read.parts.1 c.if-any_greater_than.ensures read.read

pub returns-clause-judged : goal.returns-clause-judged
returns-clause-judged g c strict = c.in_ok-written.ensures.judged strict
