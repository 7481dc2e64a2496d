-- A NaN is replaced by 0 before bits are taken.
use Rattle.std.proofs.Common.{sym, ap, arith}
use Rattle.std.specs.Prelude.{to_bits, from_bits}
use Rattle.std.specs.Float.{NotNan, binary64}
use Rattle.std.specs.Float.Ieee.{is_nan}
use lib.ListN.{replicate}
use mir.Syntax.{w64}
use Rattle.bitcode_float_columns.proofs.LaneLemmas.{replaced, asked, asked_of_all, marks_of_floats, is_number, zero_is_number, zero_bits_64, bits_of_nan_64}
use Rattle.bitcode_float_columns.proofs.bits.bits_of_f64s.Goals as goal

pub float_to_bits-result : goal.float_to_bits-result
float_to_bits-result c =
    asked_of_all is_nan c.args.floats NotNan is_number (omega (arith, c.requires)) (marks_of_floats w64 c.args.floats) c.if-not-is_nan.true

pub float_to_bits-result-2 : goal.float_to_bits-result-2
float_to_bits-result-2 c =
    let zeros = ap (λ n. replicate n (from_bits binary64 0)) (sym c.requires) in
    asked is_nan c.args.floats NotNan (from_bits binary64 0) (zero_is_number binary64 zero_bits_64) is_number (marks_of_floats w64 c.args.floats) zeros

pub returns : goal.returns
returns c =
    let zeros = ap (λ n. replicate n (from_bits binary64 0)) (sym c.requires) in
    let nans = ap (λ n. replicate n 0x7ff8000000000000) (sym c.requires) in
    replaced is_nan c.args.floats (to_bits binary64) 0x7ff8000000000000 (from_bits binary64 0) bits_of_nan_64
    (marks_of_floats w64 c.args.floats) nans zeros
