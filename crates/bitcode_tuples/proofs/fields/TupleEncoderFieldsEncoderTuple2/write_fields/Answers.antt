-- A listing of a pair is made of one of each field. Where the first field is refused the second is listed by its law.
use Rattle.std.proofs.lemmas.Result.{err_from_is_err_and, on_ok_weaker}
use Rattle.bitcode_memory.specs.declared.error.Error.{Error}
use Rattle.bitcode_coder.proofs.RefusalLemmas.{refusal_weaker, refused_weaker}
use Rattle.bitcode_tuples.proofs.WritingLemmas.{none_in_both, writes_pair, overflows_with_first, overflows_with_second}
use Rattle.bitcode_tuples.proofs.fields.TupleEncoderFieldsEncoderTuple2.write_fields.Goals as goal

pub write_fields-requires : goal.write_fields-requires
write_fields-requires g c =
    (none_in_both (g.A.HoldsColumns.columns c.args.self.now.first) (g.B.HoldsColumns.columns c.args.self.now.second) c.requires).0

pub write_fields-requires-2 : goal.write_fields-requires-2
write_fields-requires-2 g c =
    (none_in_both (g.A.HoldsColumns.columns c.args.self.now.first) (g.B.HoldsColumns.columns c.args.self.now.second) c.requires).1

pub returns-in_err-write_fields-clause-refused : goal.returns-in_err-write_fields-clause-refused
returns-in_err-write_fields-clause-refused g c =
    let fields = c.args.fields.now in
    let refused = err_from_is_err_and c.from_residual.result c.from_residual.ensures.1 in
    let listed = g.G.Whole.Shaped.data.lawful.listed (g.G.Fields.whole fields.1) c.told.ensures in
    rw (refused.1, refused.2) (
    refusal_weaker _ (
    overflows_with_first g.F.Whole.Shaped.data.lists g.G.Whole.Shaped.data.lists g.F.Whole.Shaped.data.shape g.G.Whole.Shaped.data.shape
    (g.F.Fields.whole fields.0, g.G.Fields.whole fields.1) (g.A.HoldsColumns.columns c.args.self.now.first) (g.B.HoldsColumns.columns c.args.self.now.second)
    listed.0 listed.1
    ) c.in_err-write_fields.ensures.refused
    )

pub returns-clause-written : goal.returns-clause-written
returns-clause-written g c =
    let fields = c.args.fields.now in
    on_ok_weaker c.write_fields-2.result (
    writes_pair g.F.Whole.Shaped.data.lists g.G.Whole.Shaped.data.lists g.F.Whole.Shaped.data.shape g.G.Whole.Shaped.data.shape
    (g.F.Fields.whole fields.0, g.G.Fields.whole fields.1) (g.A.HoldsColumns.columns c.args.self.now.first) (g.B.HoldsColumns.columns c.args.self.now.second)
    c.args.out.now.items c.write_fields.new.out.items c.write_fields-2.new.out.items c.in_ok-write_fields.ensures.written
    ) c.write_fields-2.ensures.written

pub returns-clause-refused : goal.returns-clause-refused
returns-clause-refused g c =
    let fields = c.args.fields.now in
    let joined = c.in_ok-write_fields.ensures.written.joined in
    refused_weaker (λ (e : Error). e.reason) c.write_fields-2.result (
    overflows_with_second g.F.Whole.Shaped.data.lists g.G.Whole.Shaped.data.lists g.F.Whole.Shaped.data.shape g.G.Whole.Shaped.data.shape
    (g.F.Fields.whole fields.0, g.G.Fields.whole fields.1) (g.A.HoldsColumns.columns c.args.self.now.first) (g.B.HoldsColumns.columns c.args.self.now.second)
    joined.datum joined.listing
    ) c.write_fields-2.ensures.refused
