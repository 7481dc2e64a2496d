-- The seconds are read before the nanoseconds.
use Rattle.std.proofs.Common.{false, inl}
use Rattle.std.proofs.lemmas.Result.{err_from_is_err_and}
use Rattle.bitcode_shapes.specs.Checked.{nanosecond_shape}
use Rattle.bitcode_shapes.specs.Ints.{int_shape}
use Rattle.bitcode_schema.proofs.FieldLemmas.{reads_both, fault_of_second}
use Rattle.bitcode_schema.proofs.leaves.read_durations.Goals as goal

pub returns-in_err-seconds-clause-exact : goal.returns-in_err-seconds-clause-exact
returns-in_err-seconds-clause-exact c =
    let refused = err_from_is_err_and c.from_residual.result c.from_residual.ensures.1 in
    rw (refused.1, refused.2) (inl c.in_err-seconds.ensures.exact)

pub returns-in_err-nanos-clause-exact : goal.returns-in_err-nanos-clause-exact
returns-in_err-nanos-clause-exact c =
    let refused = err_from_is_err_and c.from_residual-in_err-nanos.result c.from_residual-in_err-nanos.ensures.1 in
    rw (refused.1, refused.2)
    (fault_of_second c.args.k (int_shape 8 false) nanosecond_shape c.args.strict _ c.in_ok-seconds.ensures.read c.in_err-nanos.ensures.exact)

pub returns-clause-read : goal.returns-clause-read
returns-clause-read c =
    rw c.both.ensures (reads_both c.args.k (int_shape 8 false) nanosecond_shape c.args.strict c.in_ok-seconds.ensures.read c.in_ok-nanos.ensures.read)
