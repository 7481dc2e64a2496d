-- The bits of a NaN are replaced by 0 before a float is made of them.
use Rattle.std.proofs.Common.{length, refl, sym, ap, ◌∙◌}
use Rattle.std.specs.Prelude.{from_bits}
use Rattle.std.specs.Float.{NotNanBits, binary32, nan}
use Rattle.std.specs.Float.Ieee.{nan_bits}
use lib.ListN.{replicate}
use mir.Syntax.{w32}
use Rattle.bitcode_float_columns.proofs.LaneLemmas.{replaced, asked, marks_of_bits, is_number_bits, zero_bits_32, nan_of_bits_32, nan_with_bits}
use Rattle.bitcode_float_columns.proofs.bits.f32s_with_bits.Goals as goal

pub float_from_bits-result : goal.float_from_bits-result
float_from_bits-result c =
    let zeros = ap (λ n. replicate n 0) (sym c.requires) in
    asked (nan_bits binary32) c.args.bits (NotNanBits binary32) 0 zero_bits_32 (is_number_bits binary32)
    (marks_of_bits w32 binary32 0x7f800000 c.args.bits c.requires refl refl) zeros

pub returns : goal.returns
returns c =
    let zeros = ap (λ n. replicate n 0) (sym c.requires) in
    let nans = ap (λ n. replicate n (from_bits binary32 0x7fc00000)) (sym c.requires) ∙ ap (λ x. replicate (length c.args.bits) x) nan_of_bits_32 in
    replaced (nan_bits binary32) c.args.bits (from_bits binary32) nan 0 (nan_with_bits binary32)
    (marks_of_bits w32 binary32 0x7f800000 c.args.bits c.requires refl refl) nans zeros
