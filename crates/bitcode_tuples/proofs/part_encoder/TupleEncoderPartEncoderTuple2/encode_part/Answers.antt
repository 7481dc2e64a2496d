-- A listing of a pair is made of one of each part.
use Rattle.std.proofs.lemmas.Result.{err_from_is_err_and, on_ok_weaker}
use Rattle.bitcode_memory.specs.declared.error.Error.{Error}
use Rattle.bitcode_coder.proofs.RefusalLemmas.{refusal_weaker, refused_weaker}
use Rattle.bitcode_tuples.proofs.WritingLemmas.{joins_as, joins_pair, overflows_as, overflows_with_first, overflows_with_second}
use Rattle.bitcode_tuples.proofs.part_encoder.TupleEncoderPartEncoderTuple2.encode_part.Goals as goal

pub encode_part-requires-clause-listed : goal.encode_part-requires-clause-listed
encode_part-requires-clause-listed g c = let listing = c.requires.listed.1 in (listing.first, listing.lists_first)

pub encode_part-requires-2-clause-listed : goal.encode_part-requires-2-clause-listed
encode_part-requires-2-clause-listed g c = let listing = c.requires.listed.1 in (listing.second, listing.lists_second)

pub returns-in_err-encode_part-clause-refused : goal.returns-in_err-encode_part-clause-refused
returns-in_err-encode_part-clause-refused g c =
    let whole = c.args.whole.now in
    let listing = c.requires.listed.1 in
    let refused = err_from_is_err_and c.from_residual.result c.from_residual.ensures.1 in
    rw (refused.1, refused.2) (
    refusal_weaker _ (λ some. overflows_as (λ t. (t, t)) whole (
    overflows_with_first g.K.PartOf.lists g.L.PartOf.lists g.K.PartOf.shape g.L.PartOf.shape (whole, whole)
    (g.A.HoldsColumns.columns c.args.self.now.first) (g.B.HoldsColumns.columns c.args.self.now.second) listing.second listing.lists_second some
    )) c.in_err-encode_part.ensures.refused
    )

pub returns-clause-joined : goal.returns-clause-joined
returns-clause-joined g c =
    let whole = c.args.whole.now in
    on_ok_weaker c.encode_part-2.result (λ later. joins_as (λ t. (t, t)) whole (
    joins_pair g.K.PartOf.lists g.L.PartOf.lists g.K.PartOf.shape g.L.PartOf.shape (whole, whole)
    (g.A.HoldsColumns.columns c.args.self.now.first) (g.B.HoldsColumns.columns c.args.self.now.second)
    (g.A.HoldsColumns.columns c.encode_part.new.self) (g.B.HoldsColumns.columns c.encode_part-2.new.self) c.in_ok-encode_part.ensures.joined later
    )) c.encode_part-2.ensures.joined

pub returns-clause-refused : goal.returns-clause-refused
returns-clause-refused g c =
    let whole = c.args.whole.now in
    let joined = c.in_ok-encode_part.ensures.joined in
    refused_weaker (λ (e : Error). e.reason) c.encode_part-2.result (λ some. overflows_as (λ t. (t, t)) whole (
    overflows_with_second g.K.PartOf.lists g.L.PartOf.lists g.K.PartOf.shape g.L.PartOf.shape (whole, whole)
    (g.A.HoldsColumns.columns c.args.self.now.first) (g.B.HoldsColumns.columns c.args.self.now.second) joined.datum joined.listing some
    )) c.encode_part-2.ensures.refused
