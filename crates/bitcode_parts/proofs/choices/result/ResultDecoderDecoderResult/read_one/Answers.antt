-- The variant is read, and then the value or the error.
use Rattle.std.proofs.Common.{subst, sym}
use Rattle.bitcode_shapes.specs.Shape.{IsSound}
use Rattle.bitcode_parts.proofs.DirectLemmas.{one_variant, ok_read, err_read}
use Rattle.bitcode_parts.proofs.choices.result.ResultDecoderDecoderResult.read_one.Goals as goal

pub returns-in_ok-read_one : goal.returns-in_ok-read_one
returns-in_ok-read_one g c =
    ok_read g.T.Shaped.data.makes g.E.Shaped.data.makes g.A.HoldsData.shape g.B.HoldsData.shape (one_variant c.in-Ok.byte c.in-Ok.ensures.taken)
    (subst IsSound (sym g.met.B.Decoder.same_shape) g.E.Shaped.data.lawful.sound) c.if-byte-eq0.true c.in_ok-read_one.ensures

pub returns-in_ok-read_one-2 : goal.returns-in_ok-read_one-2
returns-in_ok-read_one-2 g c =
    err_read g.T.Shaped.data.makes g.E.Shaped.data.makes g.A.HoldsData.shape g.B.HoldsData.shape (one_variant c.in-Ok.byte c.in-Ok.ensures.taken)
    (subst IsSound (sym g.met.A.Decoder.same_shape) g.T.Shaped.data.lawful.sound) c.if-byte-eq0.false c.in_ok-read_one-2.ensures
