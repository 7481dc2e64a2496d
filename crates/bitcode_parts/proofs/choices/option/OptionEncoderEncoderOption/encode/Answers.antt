-- An option is written as its variant, and then its value where it has one.
use Rattle.std.proofs.Common.{ap, refl}
use Rattle.std.proofs.lemmas.Result.{on_ok_weaker}
use Rattle.bitcode_memory.specs.declared.error.Error.{Error}
use Rattle.bitcode_shapes.specs.Datum.{unit}
use Rattle.bitcode_shapes.specs.Choices.{option_variant}
use Rattle.bitcode_coder.proofs.RefusalLemmas.{refused_weaker}
use Rattle.bitcode_parts.proofs.TwoVariantLemmas.{first_joins, second_joins, second_overflows}
use Rattle.bitcode_parts.proofs.choices.option.OptionEncoderEncoderOption.encode.Goals as goal

pub returns-in-None-clause-joined : goal.returns-in-None-clause-joined
returns-in-None-clause-joined g c =
    first_joins option_variant _ (ap option_variant c.in-None.is) (g.met.E.Encoder.of_shape c.args.self.now.some) c.encode.ensures.written
    (record { datum = unit; listing = refl; joined = refl; fits = λ f. f })

pub returns-in-Some-clause-joined : goal.returns-in-Some-clause-joined
returns-in-Some-clause-joined g c =
    on_ok_weaker c.encode_payload.result (second_joins option_variant _ (ap option_variant c.in-Some.is) refl c.encode-in-Some.ensures.written)
    c.encode_payload.ensures.joined

pub returns-in-Some-clause-refused : goal.returns-in-Some-clause-refused
returns-in-Some-clause-refused g c =
    refused_weaker (λ (e : Error). e.reason) c.encode_payload.result (second_overflows option_variant _ (ap option_variant c.in-Some.is)) c.encode_payload.ensures.refused
