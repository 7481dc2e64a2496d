-- The bytes of four numbers, in order.
use Rattle.std.proofs.Common.{◌≡◌, length, map, ◌∙◌}
use Rattle.std.specs.Prelude.{to_bits}
use Rattle.std.specs.Float.{binary64}
use Rattle.std.proofs.lemmas.List.{length-map}
use Rattle.bitcode_floats.proofs.DirectLemmas.{bytes_of_four, bits_fit}
use Rattle.bitcode_floats.proofs.direct.text_of_four.Goals as goal

pub returns : goal.returns
returns c =
    let bits = map (λ x. to_bits binary64 x) c.args.floats in
    let size : length bits ≡ 4 = length-map c.args.floats (λ x. to_bits binary64 x) ∙ c.requires in
    rw (c.bits_of_f64s.ensures) (bytes_of_four bits size (bits_fit c.args.floats c.fits-floats.1))
