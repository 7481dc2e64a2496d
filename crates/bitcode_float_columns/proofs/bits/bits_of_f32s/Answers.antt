-- A NaN is replaced by 0 before bits are taken.
use Rattle.std.proofs.Common.{sym, ap}
use Rattle.std.specs.Prelude.{to_bits, from_bits}
use Rattle.std.specs.Float.{NotNan, binary32}
use Rattle.std.specs.Float.Ieee.{is_nan}
use lib.ListN.{replicate}
use mir.Syntax.{w32}
use Rattle.bitcode_float_columns.proofs.LaneLemmas.{replaced, asked, marks_of_floats, is_number, zero_is_number, zero_bits_32, bits_of_nan_32}
use Rattle.bitcode_float_columns.proofs.bits.bits_of_f32s.Goals as goal

pub float_to_bits-result : goal.float_to_bits-result
float_to_bits-result c =
    let zeros = ap (λ n. replicate n (from_bits binary32 0)) (sym c.requires) in
    asked is_nan c.args.floats NotNan (from_bits binary32 0) (zero_is_number binary32 zero_bits_32) is_number (marks_of_floats w32 c.args.floats) zeros

pub returns : goal.returns
returns c =
    let zeros = ap (λ n. replicate n (from_bits binary32 0)) (sym c.requires) in
    let nans = ap (λ n. replicate n 0x7fc00000) (sym c.requires) in
    replaced is_nan c.args.floats (to_bits binary32) 0x7fc00000 (from_bits binary32 0) bits_of_nan_32
    (marks_of_floats w32 c.args.floats) nans zeros
