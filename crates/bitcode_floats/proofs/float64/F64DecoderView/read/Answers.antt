-- The bits that were read, as data.
use Rattle.std.proofs.Common.{◌≡◌, List, ℕ, All, MatchBool, subst}
use Rattle.std.specs.Float.{binary64}
use Rattle.std.proofs.lemmas.Result.{err_from_is_err_and}
use Rattle.bitcode_memory.specs.Fast.{cow_rest}
use Rattle.bitcode_float_columns.specs.FloatColumn.{canonical}
use Rattle.bitcode_floats.specs.Floats.{long_bits, residue_of}
use Rattle.bitcode_floats.proofs.FloatLemmas.{long_read_data, long_refuses, long_judged}
use Rattle.bitcode_floats.proofs.float64.F64DecoderView.read.Goals as goal

abbrev IsWritten : List ℕ → Type 0
IsWritten entry = canonical binary64 (residue_of entry) ≡ residue_of entry

pub returns-then-not-strict-clause-read : goal.returns-then-not-strict-clause-read
returns-then-not-strict-clause-read c =
    long_read_data c.args.k c.args.input.now.now (long_bits (cow_rest c.unpack.new.out)) c.unpack.new.input.now c.in_ok-written.ensures.read c.in_ok-written.ensures.in_width

pub returns-clause-read : goal.returns-clause-read
returns-clause-read c =
    long_read_data c.args.k c.args.input.now.now (long_bits (cow_rest c.unpack.new.out)) c.unpack.new.input.now c.in_ok-written.ensures.read c.in_ok-written.ensures.in_width

pub returns-clause-judged : goal.returns-clause-judged
returns-clause-judged c strict =
    rw c.both.ensures
    (long_judged c.are_canonical-canonical.result c.in_ok-written.written c.args.k c.args.input.now.now (cow_rest c.unpack.new.out) c.unpack.new.input.now
    c.in_ok-written.ensures.read c.in_ok-written.ensures.in_width
    (subst (λ entries. MatchBool c.are_canonical-canonical.result (All IsWritten entries) (All IsWritten entries → ⊥)) c.as_slice.ensures c.are_canonical-canonical.ensures)
    (c.in_ok-written.ensures.judged strict))

pub returns-in_err-written-clause-refused : goal.returns-in_err-written-clause-refused
returns-in_err-written-clause-refused c =
    let refused = err_from_is_err_and c.from_residual.result c.from_residual.ensures.1 in
    rw (refused.1, refused.2) (long_refuses _ c.args.k c.args.input.now.now c.in_err-written.ensures.refused)

pub returns-in_err-written-clause-exact : goal.returns-in_err-written-clause-exact
returns-in_err-written-clause-exact c =
    let refused = err_from_is_err_and c.from_residual.result c.from_residual.ensures.1 in
    rw (refused.1, refused.2) (record { named = c.in_err-written.ensures.refused; free = c.in_err-written.ensures.raw })
