-- The bytes of the fields are those of the struct.
use Rattle.std.proofs.lemmas.Result.{err_from_is_err_and}
use Rattle.bitcode_coder.proofs.RefusalLemmas.{refusal_weaker}
use Rattle.bitcode_tuples.proofs.FieldLemmas.{writes_one_as, overflows_one_as}
use Rattle.bitcode_tuples.proofs.struct_encoder.StructEncoderEncoder.write_directly.Goals as goal

pub returns-in_err-write_part-clause-refused : goal.returns-in_err-write_part-clause-refused
returns-in_err-write_part-clause-refused g c =
    let refused = err_from_is_err_and c.from_residual.result c.from_residual.ensures.1 in
    rw (refused.1, refused.2)
    (refusal_weaker _
    (overflows_one_as g.T.Numbers.PartOf.lists g.T.Shaped.data.lists (λ t. (g.met.T.InFields.same_listings t).from) g.met.T.InFields.same_columns c.args.t.now)
    c.in_err-write_part.ensures.refused)

pub returns-clause-written : goal.returns-clause-written
returns-clause-written g c done =
    writes_one_as g.T.Numbers.PartOf.lists g.T.Shaped.data.lists (λ t. (g.met.T.InFields.same_listings t).from) g.met.T.InFields.same_columns c.args.t.now
    c.in_ok-write_part.ensures.written
