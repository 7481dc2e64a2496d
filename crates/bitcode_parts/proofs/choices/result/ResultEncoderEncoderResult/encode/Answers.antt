-- A result is written as its variant, and then the payload of that variant.
use Rattle.std.proofs.Common.{ap}
use Rattle.std.proofs.lemmas.Result.{on_ok_weaker}
use Rattle.bitcode_memory.specs.declared.error.Error.{Error}
use Rattle.bitcode_shapes.specs.Choices.{result_variant}
use Rattle.bitcode_coder.proofs.RefusalLemmas.{refused_weaker}
use Rattle.bitcode_parts.proofs.TwoVariantLemmas.{first_joins, first_overflows, second_joins, second_overflows}
use Rattle.bitcode_parts.proofs.choices.result.ResultEncoderEncoderResult.encode.Goals as goal

pub returns-in-Ok-clause-joined : goal.returns-in-Ok-clause-joined
returns-in-Ok-clause-joined g c =
    on_ok_weaker c.encode_payload.result (first_joins result_variant _ (ap result_variant c.in-Ok.is) (g.met.B.Encoder.of_shape c.args.self.now.err) c.encode.ensures.written)
    c.encode_payload.ensures.joined

pub returns-in-Ok-clause-refused : goal.returns-in-Ok-clause-refused
returns-in-Ok-clause-refused g c =
    refused_weaker (λ (e : Error). e.reason) c.encode_payload.result (first_overflows result_variant _ (ap result_variant c.in-Ok.is)) c.encode_payload.ensures.refused

pub returns-in-Err-clause-joined : goal.returns-in-Err-clause-joined
returns-in-Err-clause-joined g c =
    on_ok_weaker c.encode_payload-in-Err.result (second_joins result_variant _ (ap result_variant c.in-Err.is) (g.met.A.Encoder.of_shape c.args.self.now.ok) c.encode-in-Err.ensures.written)
    c.encode_payload-in-Err.ensures.joined

pub returns-in-Err-clause-refused : goal.returns-in-Err-clause-refused
returns-in-Err-clause-refused g c =
    refused_weaker (λ (e : Error). e.reason) c.encode_payload-in-Err.result (second_overflows result_variant _ (ap result_variant c.in-Err.is)) c.encode_payload-in-Err.ensures.refused
