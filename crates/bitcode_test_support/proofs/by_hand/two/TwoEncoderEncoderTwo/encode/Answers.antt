-- A value is written as its variant, and then the payload of that variant.
use Rattle.std.proofs.Common.{ap, refl}
use Rattle.std.proofs.lemmas.Result.{on_ok_weaker}
use Rattle.bitcode_parts.proofs.TwoVariantLemmas.{first_joins, second_joins}
use Rattle.bitcode_test_support.specs.Two.{two_variant}
use Rattle.bitcode_test_support.proofs.by_hand.two.TwoEncoderEncoderTwo.encode.Goals as goal

pub returns-in-A-clause-joined : goal.returns-in-A-clause-joined
returns-in-A-clause-joined c =
    on_ok_weaker _ (first_joins two_variant _ (ap two_variant c.in-A.is) refl c.encode.ensures.written) c.encode_payload.ensures.joined

pub returns-in-B-clause-joined : goal.returns-in-B-clause-joined
returns-in-B-clause-joined c =
    on_ok_weaker _ (second_joins two_variant _ (ap two_variant c.in-B.is) refl c.encode-in-B.ensures.written) c.encode_payload-in-B.ensures.joined
