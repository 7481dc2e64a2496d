-- A listing of a pair is made of one of each part, and the bytes of the second part stand behind those of the first.
use Rattle.std.proofs.lemmas.Result.{err_from_is_err_and, on_ok_weaker}
use Rattle.bitcode_memory.specs.declared.error.Error.{Error}
use Rattle.bitcode_coder.proofs.RefusalLemmas.{refusal_weaker, refused_weaker}
use Rattle.bitcode_tuples.proofs.WritingLemmas.{none_in_both, overflows_as, overflows_with_first, overflows_with_second, writes_as, writes_pair}
use Rattle.bitcode_tuples.proofs.part_encoder.TupleEncoderPartEncoderTuple2.write_part.Goals as goal

pub write_part-requires-clause-none : goal.write_part-requires-clause-none
write_part-requires-clause-none g c =
    (none_in_both (g.A.HoldsColumns.columns c.args.self.now.first) (g.B.HoldsColumns.columns c.args.self.now.second) c.requires.none).0

pub write_part-requires-clause-listed : goal.write_part-requires-clause-listed
write_part-requires-clause-listed g c = let listing = c.requires.listed.1 in (listing.first, listing.lists_first)

pub write_part-requires-2-clause-none : goal.write_part-requires-2-clause-none
write_part-requires-2-clause-none g c =
    (none_in_both (g.A.HoldsColumns.columns c.args.self.now.first) (g.B.HoldsColumns.columns c.args.self.now.second) c.requires.none).1

pub write_part-requires-2-clause-listed : goal.write_part-requires-2-clause-listed
write_part-requires-2-clause-listed g c = let listing = c.requires.listed.1 in (listing.second, listing.lists_second)

pub returns-in_err-write_part-clause-refused : goal.returns-in_err-write_part-clause-refused
returns-in_err-write_part-clause-refused g c =
    let whole = c.args.whole.now in
    let listing = c.requires.listed.1 in
    let refused = err_from_is_err_and c.from_residual.result c.from_residual.ensures.1 in
    rw (refused.1, refused.2) (
    refusal_weaker _ (λ some. overflows_as (λ t. (t, t)) whole (
    overflows_with_first g.K.PartOf.lists g.L.PartOf.lists g.K.PartOf.shape g.L.PartOf.shape (whole, whole)
    (g.A.HoldsColumns.columns c.args.self.now.first) (g.B.HoldsColumns.columns c.args.self.now.second) listing.second listing.lists_second some
    )) c.in_err-write_part.ensures.refused
    )

pub returns-clause-written : goal.returns-clause-written
returns-clause-written g c =
    let whole = c.args.whole.now in
    on_ok_weaker c.write_part-2.result (λ later. writes_as (λ t. (t, t)) whole (
    writes_pair g.K.PartOf.lists g.L.PartOf.lists g.K.PartOf.shape g.L.PartOf.shape (whole, whole)
    (g.A.HoldsColumns.columns c.args.self.now.first) (g.B.HoldsColumns.columns c.args.self.now.second)
    c.args.out.now.items c.write_part.new.out.items c.write_part-2.new.out.items c.in_ok-write_part.ensures.written later
    )) c.write_part-2.ensures.written

pub returns-clause-refused : goal.returns-clause-refused
returns-clause-refused g c =
    let whole = c.args.whole.now in
    let joined = c.in_ok-write_part.ensures.written.joined in
    refused_weaker (λ (e : Error). e.reason) c.write_part-2.result (λ some. overflows_as (λ t. (t, t)) whole (
    overflows_with_second g.K.PartOf.lists g.L.PartOf.lists g.K.PartOf.shape g.L.PartOf.shape (whole, whole)
    (g.A.HoldsColumns.columns c.args.self.now.first) (g.B.HoldsColumns.columns c.args.self.now.second) joined.datum joined.listing some
    )) c.write_part-2.ensures.refused
