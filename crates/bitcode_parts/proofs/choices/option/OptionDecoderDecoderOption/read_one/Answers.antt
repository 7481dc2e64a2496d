-- The variant is read, and then the value where there is one.
use Rattle.std.proofs.Common.{subst, sym}
use Rattle.bitcode_shapes.specs.Shape.{IsSound}
use Rattle.bitcode_parts.proofs.DirectLemmas.{one_variant, none_read, some_read}
use Rattle.bitcode_parts.proofs.choices.option.OptionDecoderDecoderOption.read_one.Goals as goal

pub returns-then-byte-eq0 : goal.returns-then-byte-eq0
returns-then-byte-eq0 g c =
    none_read g.T.Shaped.data.makes g.D.HoldsData.shape (one_variant c.in-Ok.byte c.in-Ok.ensures.taken)
    (subst IsSound (sym g.met.D.Decoder.same_shape) g.T.Shaped.data.lawful.sound) c.if-byte-eq0.true

pub returns-in_ok-read_one : goal.returns-in_ok-read_one
returns-in_ok-read_one g c =
    some_read g.T.Shaped.data.makes g.D.HoldsData.shape (one_variant c.in-Ok.byte c.in-Ok.ensures.taken) c.if-byte-eq0.false c.in_ok-read_one.ensures
