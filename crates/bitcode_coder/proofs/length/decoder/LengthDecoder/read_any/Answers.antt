-- Both parts are read, and then the sum is looked at.
use Rattle.std.proofs.Common.{None}
use Rattle.std.proofs.lemmas.Result.{err_from_is_err_and}
use Rattle.bitcode_columns.proofs.ReadingLemmas.{OnErr-always}
use Rattle.bitcode_coder.specs.Length.{short_left, large_left, lengths_left}
use Rattle.bitcode_coder.specs.LengthParts.{in_sum}
use Rattle.bitcode_coder.proofs.LengthPartLemmas.{ends_behind_parts, reads_lengths}
use Rattle.bitcode_coder.proofs.length.decoder.LengthDecoder.read_any.Goals as goal

pub returns-in_err-self-in-Ok-clause-refused : goal.returns-in_err-self-in-Ok-clause-refused
unfolding short_left large_left lengths_left
returns-in_err-self-in-Ok-clause-refused c =
    let refused = err_from_is_err_and c.from_residual.result c.from_residual.ensures.1 in
    rw (refused.1, refused.2) (in_sum c.in-Ok.ensures.read c.in_err-self-in-Ok.ensures.refused)

pub returns-in_err-self-in-Ok-clause-rest : goal.returns-in_err-self-in-Ok-clause-rest
returns-in_err-self-in-Ok-clause-rest c = OnErr-always c.from_residual.result (ends_behind_parts c.in-Ok.ensures.read)

pub returns-in_ok-self-in-Ok-clause-read : goal.returns-in_ok-self-in-Ok-clause-read
unfolding short_left large_left lengths_left
returns-in_ok-self-in-Ok-clause-read c = reads_lengths None _ _ _ _ _ c.in-Ok.ensures.read c.in_ok-self-in-Ok.ensures.below tt
