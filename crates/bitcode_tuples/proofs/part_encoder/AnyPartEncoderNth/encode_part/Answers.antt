-- What is written of the field is written of the value.
use Rattle.std.proofs.Common.{subst}
use Rattle.bitcode_memory.specs.declared.error.Error.{Error}
use Rattle.bitcode_coder.specs.Coder.{OverflowsWithListing}
use Rattle.bitcode_coder.proofs.RefusalLemmas.{refused_weaker}
use Rattle.bitcode_tuples.proofs.WritingLemmas.{overflows_as}
use Rattle.bitcode_tuples.proofs.part_encoder.AnyPartEncoderNth.encode_part.Goals as goal

pub returns-clause-refused : goal.returns-clause-refused
returns-clause-refused g c =
    refused_weaker (λ (e : Error). e.reason) c.encode.result (λ some.
    overflows_as g.T.HasField.field c.args.whole.now
    (subst (λ f. OverflowsWithListing g.T.Field.Shaped.data.lists g.T.Field.Shaped.data.shape f (g.E.HoldsColumns.columns c.args.self.now)) c.field.ensures some)
    ) c.encode.ensures.refused
