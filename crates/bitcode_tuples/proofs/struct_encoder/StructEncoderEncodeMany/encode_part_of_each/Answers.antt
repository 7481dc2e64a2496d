-- What is written of the fields is written of the structs.
use Rattle.std.proofs.lemmas.Result.{on_ok_weaker}
use Rattle.bitcode_memory.specs.declared.error.Error.{Error}
use Rattle.bitcode_coder.proofs.RefusalLemmas.{refused_weaker}
use Rattle.bitcode_tuples.proofs.FieldLemmas.{joins_listed_as, overflows_listed_as}
use Rattle.bitcode_tuples.proofs.struct_encoder.StructEncoderEncodeMany.encode_part_of_each.Goals as goal

pub returns-clause-joined : goal.returns-clause-joined
returns-clause-joined g c =
    on_ok_weaker c.encode_part_in_each.result
    (joins_listed_as (g.W.Part.of c.args.which.now) (λ t. t) g.T.Numbers.PartOf.lists g.T.Shaped.data.lists (λ t. (g.met.T.InFields.same_listings t).from)
    g.met.T.InFields.same_columns c.args.items.now)
    c.encode_part_in_each.ensures.joined

pub returns-clause-refused : goal.returns-clause-refused
returns-clause-refused g c =
    refused_weaker (λ (e : Error). e.reason) c.encode_part_in_each.result
    (overflows_listed_as (g.W.Part.of c.args.which.now) (λ t. t) g.T.Numbers.PartOf.lists g.T.Shaped.data.lists (λ t. (g.met.T.InFields.same_listings t).from)
    g.met.T.InFields.same_columns c.args.items.now)
    c.encode_part_in_each.ensures.refused
