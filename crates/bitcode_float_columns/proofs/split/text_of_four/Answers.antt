-- The bytes of four numbers, in order.
use Rattle.std.proofs.Common.{◌≡◌, length, map, ◌∙◌}
use Rattle.std.specs.Prelude.{to_bits}
use Rattle.std.specs.Float.{binary32}
use Rattle.std.proofs.lemmas.List.{length-map}
use Rattle.bitcode_float_columns.proofs.SplitLemmas.{text_of_bytes, bits_fit}
use Rattle.bitcode_float_columns.proofs.split.text_of_four.Goals as goal

pub returns : goal.returns
returns c =
    let bits = map (λ x. to_bits binary32 x) c.args.floats in
    let size : length bits ≡ 4 = length-map c.args.floats (λ x. to_bits binary32 x) ∙ c.requires in
    rw (c.bits_of_f32s-bytes.ensures) (text_of_bytes bits size (bits_fit c.args.floats c.fits-floats.1))
