-- The length joins its column, and the elements theirs.
use Rattle.std.proofs.Common.{map, length, subst}
use Rattle.std.specs.Prelude.{None}
use Rattle.std.proofs.lemmas.Result.{err_from_is_err_and, on_ok_weaker}
use Rattle.bitcode_memory.specs.declared.error.Error.{Error}
use Rattle.bitcode_coder.specs.Columns.{lengths, one, two}
use Rattle.bitcode_coder.specs.Length.{written_lengths}
use Rattle.bitcode_coder.specs.Spelling.{natural}
use Rattle.bitcode_coder.proofs.RefusalLemmas.{refusal_weaker, refused_weaker}
use Rattle.bitcode_parts.proofs.ListWritingLemmas.{joins_sequence, overflows_sequence, overflows_surely, joins_as, overflows_as}
use Rattle.bitcode_parts.proofs.lists.vec.VecEncoderEncoder.encode.Goals as goal

pub returns-in_err-reserve-clause-refused : goal.returns-in_err-reserve-clause-refused
returns-in_err-reserve-clause-refused g c =
    let refused = err_from_is_err_and c.from_residual.result c.from_residual.ensures.1 in
    let lists = g.S.Element.Shaped.data.lists in
    let shape = g.S.Element.Shaped.data.shape in
    let items = g.S.Sequence.items c.args.t.now in
    let old_lengths = written_lengths c.args.self.now.lengths in
    let old = g.E.HoldsColumns.columns c.args.self.now.elements in
    rw (refused.1, refused.2) (
    refusal_weaker _ (λ surely.
    overflows_as lists shape g.S.Shaped.data.lists g.S.Shaped.data.shape c.args.t.now items (g.met.S.Sequence.items_list c.args.t.now) g.met.S.Sequence.items_columns
    (two (one (lengths None) (map natural old_lengths)) old)
    (overflows_sequence lists shape items old_lengths old
    (overflows_surely lists shape items g.S.Element.Shaped.data.is_value g.S.Element.Shaped.data.same g.S.Element.Shaped.data.in_order g.S.Element.Shaped.data.lawful
    (g.met.S.Sequence.items_are c.args.t.now c.told.ensures) old
    (g.met.E.EncodeMany.surely c.args.self.now.elements (length items) (subst (λ n. g.E.HoldsColumns.surely_overflows c.args.self.now.elements n) c.element_count-count.ensures surely)))))
    c.in_err-reserve.ensures.refused
    )

pub returns-clause-joined : goal.returns-clause-joined
returns-clause-joined g c =
    let lists = g.S.Element.Shaped.data.lists in
    let shape = g.S.Element.Shaped.data.shape in
    let items = g.S.Sequence.items c.args.t.now in
    let old_lengths = written_lengths c.args.self.now.lengths in
    let old = g.E.HoldsColumns.columns c.args.self.now.elements in
    on_ok_weaker c.encode_elements.result (λ each.
    joins_as lists shape g.S.Shaped.data.lists g.S.Shaped.data.shape c.args.t.now items (g.met.S.Sequence.items_list c.args.t.now) g.met.S.Sequence.items_columns
    (two (one (lengths None) (map natural old_lengths)) old) _
    (joins_sequence lists shape items old_lengths (written_lengths c.encode.new.self) old (g.E.HoldsColumns.columns c.encode_elements.new.elements)
    (rw c.element_count-count.ensures at c.in_ok-encode.ensures.written) each)
    ) (rw c.in_ok-reserve.ensures.columns at c.encode_elements.ensures.joined)

pub returns-clause-refused : goal.returns-clause-refused
returns-clause-refused g c =
    let lists = g.S.Element.Shaped.data.lists in
    let shape = g.S.Element.Shaped.data.shape in
    let items = g.S.Sequence.items c.args.t.now in
    let old_lengths = written_lengths c.args.self.now.lengths in
    let old = g.E.HoldsColumns.columns c.args.self.now.elements in
    refused_weaker (λ (e : Error). e.reason) c.encode_elements.result (λ each.
    overflows_as lists shape g.S.Shaped.data.lists g.S.Shaped.data.shape c.args.t.now items (g.met.S.Sequence.items_list c.args.t.now) g.met.S.Sequence.items_columns
    (two (one (lengths None) (map natural old_lengths)) old) (overflows_sequence lists shape items old_lengths old each)
    ) (rw c.in_ok-reserve.ensures.columns at c.encode_elements.ensures.refused)
