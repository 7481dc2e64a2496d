-- What is written of the fields is written of the values.
use Rattle.std.proofs.Common.{refl}
use Rattle.std.proofs.lemmas.Result.{on_ok_weaker}
use Rattle.bitcode_memory.specs.declared.error.Error.{Error}
use Rattle.bitcode_coder.proofs.RefusalLemmas.{refused_weaker}
use Rattle.bitcode_tuples.proofs.FieldLemmas.{joins_listed_as, overflows_listed_as}
use Rattle.bitcode_tuples.proofs.part_encoder.AnyPartsEncoderNth.encode_part_in_each.Goals as goal

pub returns-clause-joined : goal.returns-clause-joined
returns-clause-joined g c =
    on_ok_weaker c.encode_part_of_each.result
    (joins_listed_as (g.W.Part.of c.args.which.now) g.T.HasField.field g.T.Field.Shaped.data.lists (λ t d. g.T.Field.Shaped.data.lists (g.T.HasField.field t) d) (λ t d h. h) refl
    c.args.items.now)
    c.encode_part_of_each.ensures.joined

pub returns-clause-refused : goal.returns-clause-refused
returns-clause-refused g c =
    refused_weaker (λ (e : Error). e.reason) c.encode_part_of_each.result
    (overflows_listed_as (g.W.Part.of c.args.which.now) g.T.HasField.field g.T.Field.Shaped.data.lists (λ t d. g.T.Field.Shaped.data.lists (g.T.HasField.field t) d) (λ t d h. h) refl
    c.args.items.now)
    c.encode_part_of_each.ensures.refused
