-- The listings of the parts make up those of the pairs.
use Rattle.std.proofs.lemmas.Result.{err_from_is_err_and, on_ok_weaker}
use Rattle.bitcode_memory.specs.declared.error.Error.{Error}
use Rattle.bitcode_coder.proofs.RefusalLemmas.{refusal_weaker, refused_weaker}
use Rattle.bitcode_tuples.proofs.WritingLemmas.{firsts_listed, seconds_listed, joins_pairs, overflows_with_firsts, overflows_with_seconds}
use Rattle.bitcode_tuples.proofs.part_encoder.TupleEncoderPartsEncoderTuple2.encode_part_in_each.Goals as goal

pub encode_part_in_each-requires-clause-listed : goal.encode_part_in_each-requires-clause-listed
encode_part_in_each-requires-clause-listed g c =
    let of = g.W.Part.of c.args.which.now in
    firsts_listed of (λ t. (t, t)) _ _ c.args.items.now c.requires.listed.0 c.requires.listed.1

pub encode_part_in_each-requires-2-clause-listed : goal.encode_part_in_each-requires-2-clause-listed
encode_part_in_each-requires-2-clause-listed g c =
    let of = g.W.Part.of c.args.which.now in
    seconds_listed of (λ t. (t, t)) _ _ c.args.items.now c.requires.listed.0 c.requires.listed.1

pub returns-in_err-encode_part_in_each-clause-refused : goal.returns-in_err-encode_part_in_each-clause-refused
returns-in_err-encode_part_in_each-clause-refused g c =
    let refused = err_from_is_err_and c.from_residual.result c.from_residual.ensures.1 in
    let items = c.args.items.now in
    let of = g.W.Part.of c.args.which.now in
    let listed = seconds_listed of (λ t. (t, t)) _ _ items c.requires.listed.0 c.requires.listed.1 in
    rw (refused.1, refused.2)
    (refusal_weaker _ (overflows_with_firsts of (λ t. (t, t)) items listed.0 listed.1)
    c.in_err-encode_part_in_each.ensures.refused)

pub returns-clause-joined : goal.returns-clause-joined
returns-clause-joined g c =
    let of = g.W.Part.of c.args.which.now in
    on_ok_weaker c.encode_part_in_each-2.result
    (joins_pairs of (λ t. (t, t)) c.args.items.now c.in_ok-encode_part_in_each.ensures.joined)
    c.encode_part_in_each-2.ensures.joined

pub returns-clause-refused : goal.returns-clause-refused
returns-clause-refused g c =
    let of = g.W.Part.of c.args.which.now in
    let joined = c.in_ok-encode_part_in_each.ensures.joined in
    refused_weaker (λ (e : Error). e.reason) c.encode_part_in_each-2.result
    (overflows_with_seconds of (λ t. (t, t)) c.args.items.now joined.parts joined.listings)
    c.encode_part_in_each-2.ensures.refused
