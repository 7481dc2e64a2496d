-- What is written of the fields is written of the struct.
use Rattle.std.proofs.lemmas.Result.{on_ok_weaker}
use Rattle.bitcode_memory.specs.declared.error.Error.{Error}
use Rattle.bitcode_coder.proofs.RefusalLemmas.{refused_weaker}
use Rattle.bitcode_tuples.proofs.FieldLemmas.{joins_one_as, overflows_one_as}
use Rattle.bitcode_tuples.proofs.struct_encoder.StructEncoderEncoder.encode.Goals as goal

pub returns-clause-joined : goal.returns-clause-joined
returns-clause-joined g c =
    on_ok_weaker c.encode_part.result
    (joins_one_as g.T.Numbers.PartOf.lists g.T.Shaped.data.lists (λ t. (g.met.T.InFields.same_listings t).from) g.met.T.InFields.same_columns c.args.t.now)
    c.encode_part.ensures.joined

pub returns-clause-refused : goal.returns-clause-refused
returns-clause-refused g c =
    refused_weaker (λ (e : Error). e.reason) c.encode_part.result
    (overflows_one_as g.T.Numbers.PartOf.lists g.T.Shaped.data.lists (λ t. (g.met.T.InFields.same_listings t).from) g.met.T.InFields.same_columns c.args.t.now)
    c.encode_part.ensures.refused
